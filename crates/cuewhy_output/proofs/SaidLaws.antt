-- What the program says, case by case, as the code comes to it.
use Prim.Native.Nat.{ℕ, ◌-◌, ◌^◌, ◌≤◌, ◌<◌}
use mathlib.Core.Path.{◌≡◌, refl, ap, ◌∙◌}
use mathlib.Core.List.{List}
use native.Mathlib.Omega.{arith}
use lib.ListN.{length, take, drop, length-drop}
use borrow.Author.Tests.{eq-eqb, ne_eqb, lt-ltb, le-ltb}
use Rattle.packet.proofs.SliceLaws.{tail-whole}
use Rattle.cue.specs.Records.{record_at}
use Rattle.text.specs.Line.{too_long_line}
use Rattle.text.specs.Room.{filled, put_at, text_left}
use Rattle.text.proofs.RoomLaws.{put_front}
use Rattle.list_reason.specs.ListReason.{ListWhy, Reached, walked, walked_by, list_why}
use Rattle.std.proofs.Common.{Option, Some, None, Result, Ok, Err}
use Rattle.std.specs.Result.{result_unwrap_or}
use Rattle.lbp16.proofs.RuleLaws.{rule_number_range}
use Rattle.list_reason.specs.Listing.{reached_listed, why_listed}
use Rattle.list_reason.specs.declared.ListFault.{ListFault}
use Rattle.list_reason.specs.declared.Stopped.{Stopped}
use Rattle.list_reason.proofs.WhyLaws.{why-good, good-few}
use Rattle.cuewhy_output.specs.Wording.{accepted_text, refused_text}
use Rattle.cuewhy_output.specs.Said.{most_bytes, usage_line, why_text, said}
use Rattle.cuewhy_output.proofs.SizeLaws.{refused-size, accepted-size, usage_size, too_long-size}

pub none-why : (o : Option ListFault) → ((w : ListFault) → o ≡ Some w → ⊥) → (why_listed o).number ≡ 0
none-why None h = refl
none-why (Some w) h = absurd (h w refl)

-- the records of a list that is good to its end
counted-records : (bytes : ℕ) (r : Result ℕ Stopped) → (reached_listed bytes r).number ≡ 0 → result_unwrap_or r 0 ≡ (reached_listed bytes r).records
counted-records bytes (Ok n) e = refl
counted-records bytes (Err s) e = absurd (omega (arith, rule_number_range s.rule))

module _ (count : ℕ) (list room after : List ℕ) (k : ℕ) (size : length room ≡ 256) where
  pub said_usage : (count ≡ 1 → ⊥) → filled k after ≡ put_at usage_line 0 room → filled k after ≡ text_left (said count list) room
  unfolding said
  said_usage n p = rw (ne_eqb count 1 n) (p ∙ put_front usage_line room (omega (arith, usage_size)))

  pub said-too_long : count ≡ 1 → most_bytes < length list → filled k after ≡ put_at too_long_line 0 room
      → filled k after ≡ text_left (said count list) room
  unfolding said
  said-too_long n l p = rw (eq-eqb count 1 n, lt-ltb most_bytes (length list) l) (p ∙ put_front too_long_line room (omega (arith, too_long-size)))

  module _ (one : count ≡ 1) (few : length list ≤ most_bytes) (w : ListWhy) (e : w ≡ list_why list) where
    pub said-accepted : w.number ≡ 0 → (r : Result ℕ Stopped) → reached_listed (length list) r ≡ walked list → {n : ℕ} → n ≡ result_unwrap_or r 0
        → filled k after ≡ put_at (accepted_text n) 0 room → filled k after ≡ text_left (said count list) room
    unfolding said why_text walked walked_by
    said-accepted z r f {n} g p =
        let (xs, q) = why-good list (rw (← e) z) in
        let number : (walked list).number ≡ 0 = rw q refl in
        let same : n ≡ (walked list).records = g ∙ counted-records (length list) r (rw (← f) at number) ∙ ap (λ (x : Reached). x.records) f in
        let counted : (walked list).records ≤ length list = good-few list (rw (← e) z) in
        rw (eq-eqb count 1 one, le-ltb most_bytes (length list) few, ← e, eq-eqb w.number 0 z, ← same)
        (p ∙ put_front (accepted_text n) room (omega (arith, accepted-size n (omega (arith, same, counted)))))

    pub said-refused : (w.number ≡ 0 → ⊥) → w.number < 2 ^ 64 → w.place < 2 ^ 64 → w.offset < 2 ^ 64
        → (record_at (take (length list - w.offset) (drop w.offset list))).space < 256
        → filled k after ≡ put_at (refused_text w (take (length list - w.offset) (drop w.offset list))) 0 room
        → filled k after ≡ text_left (said count list) room
    unfolding said why_text
    said-refused z a b c d p =
        let rest = drop w.offset list in
        let short : length rest < 2 ^ 64 = rw length-drop (omega arith) in
        let fits = refused-size w rest a b c short (rw tail-whole at d) in
        rw (eq-eqb count 1 one, le-ltb most_bytes (length list) few, ← e, ne_eqb w.number 0 z)
        (rw tail-whole at p ∙ put_front (refused_text w rest) room (omega arith))
