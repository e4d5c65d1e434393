-- Laws of what the program writes: by the planner's answer, and that it stands in the room.
use Prim.Native.Nat.{ℕ, ◌^◌, ◌≤◌, ◌<◌}
use mathlib.Core.Path.{◌≡◌, refl, sym, ap, ◌∙◌}
use mathlib.Core.List.{List, [], ◌∷◌}
use mathlib.Core.Bool.{Bool, true, false}
use native.Mathlib.Omega.{arith}
use lib.ListN.{length, take, get_or}
use lib.Seq.{length-take-le}
use lib.Dec.{ltb}
use borrow.Author.Tests.{lt-ltb, le-ltb}
use Rattle.lbp16.specs.Answer.{Answer, rule_number}
use Rattle.lbp16.proofs.RuleLaws.{rule_number_range}
use Rattle.lbp16.specs.declared.Refusal.{Refusal}
use Rattle.cue.specs.Compile.{Compiled, compiled, compile_listed, left, output}
use Rattle.cue.specs.declared.Packed.{Packed}
use Rattle.std.specs.Prelude.{Result, Ok, Err}
use Rattle.cue.proofs.CompileLaws.{accepted-list}
use Rattle.planner.specs.Planner.{TightenedBy, Tightened}
use Rattle.text.specs.Number.{ascii}
use Rattle.text.specs.Room.{filled, put_at}
use Rattle.text.specs.Line.{refused_line, too_long_line}
use Rattle.text.proofs.RoomLaws.{put_front, left-within}
use Rattle.text.proofs.LineLaws.{refused-length}
use Rattle.cuec_output.specs.Report.{most_bytes}
use Rattle.cuetight_output.specs.Report.{ReportedBy, Reported}

-- the line that is said for a list that is too long
pub too_long-reported : (list room after : List ℕ) (n : ℕ) → most_bytes < length list → length room ≡ 32768
    → filled n after ≡ put_at too_long_line 0 room → Reported list room n after
unfolding Reported ReportedBy too_long_line ascii
too_long-reported list room after n h size p =
    rw (lt-ltb most_bytes (length list) h) (p ∙ put_front too_long_line room (omega arith))

-- as the code comes to it: `a` is the planner's answer, `room'` the room after it
module _ (list room : List ℕ) (few : length list ≤ most_bytes) (a : Result Packed Refusal) (room'' : List ℕ)
    (t : Tightened list room (left a room'')) where
  pub packets-reported : (p : Packed) → a ≡ Ok p → Reported list room p.bytes room''
  unfolding Reported ReportedBy Tightened TightenedBy left compile_listed
  packets-reported p d = rw (le-ltb most_bytes (length list) few) (go (compiled list room).answer t)
    where
      e : compile_listed a ≡ Answer.accepted (p.bytes ∷ p.packets ∷ [])
      e = ap compile_listed d

      go : (v : Answer) → TightenedBy v list room (left a room'') → ReportedBy false v list room p.bytes room''
      go (Answer.refused m k) s =
          let f : compile_listed a ≡ Answer.refused m k = ap (λ (c : Compiled). c.answer) s in
          let z : ◌≡◌ {A = ℕ} 0 1 = cc in
          absurd (omega arith)
      go (Answer.accepted values) s = record { count = p.packets; tighter = rw e at s }

  pub refusal-reported : (r : Refusal) (number : ℕ) (after : List ℕ) (m : ℕ) → length room ≡ 32768 → number ≡ rule_number r.rule
      → r.place < 2 ^ 64 → a ≡ Err r → filled m after ≡ put_at (refused_line number r.place) 0 room'' → Reported list room m after
  unfolding Reported ReportedBy Tightened TightenedBy left compile_listed
  refusal-reported r number after m size same-number far d p = rw (le-ltb most_bytes (length list) few) (go (compiled list room).answer t)
    where
      e : compile_listed a ≡ Answer.refused (rule_number r.rule) r.place
      e = ap compile_listed d

      go : (v : Answer) → TightenedBy v list room (left a room'') → ReportedBy false v list room m after
      go (Answer.refused n place) s =
          let same : room'' ≡ room = ap (λ (c : Compiled). c.room) s in
          let f : compile_listed a ≡ Answer.refused n place = ap (λ (c : Compiled). c.answer) s in
          let x : rule_number r.rule ≡ n = cc in
          let y : r.place ≡ place = cc in
          let range = rule_number_range r.rule in
          let fits = refused-length (rule_number r.rule) r.place (omega (arith, range.1)) far in
          rw (← x, ← y) (rw (same, same-number) at p ∙ put_front (refused_line (rule_number r.rule) r.place) room (omega arith))
      go (Answer.accepted values) s =
          let f = s.answered in
          let z : ◌≡◌ {A = ℕ} 0 1 = cc in
          absurd (omega arith)

-- What is written stands in the room.
pub reported-within : (list room after : List ℕ) (n : ℕ) → Reported list room n after → n ≤ length after
unfolding Reported ReportedBy
reported-within list room after n = go (ltb most_bytes (length list)) (compiled list room).answer refl
  where
    bound : (values : List ℕ) → (compiled list room).answer ≡ Answer.accepted values → get_or values 0 0 ≤ length room
    bound values w =
        let k = accepted-list list room values w in
        let q : length (output k.xs) ≡ get_or values 0 0 =
        ap (λ (v : Answer). first v) (sym (ap (λ (c : Compiled). c.answer) k.same) ∙ w) in
        omega (arith, k.fits)
      where
        first : Answer → ℕ
        first (Answer.accepted vs) = get_or vs 0 0
        first (Answer.refused m j) = 0

    go : (b : Bool) (v : Answer) → (compiled list room).answer ≡ v → ReportedBy b v list room n after → n ≤ length after
    go true v w h = left-within _ _ h
    go false (Answer.refused m k) w h = left-within _ _ h
    go false (Answer.accepted values) w h =
        let s = h.tighter in
        let f = s.answered in
        let g : s.bytes ≡ n = cc in
        omega (arith, s.no_longer, s.size, bound values w)

pub reported-front : (list room after : List ℕ) (n : ℕ) → Reported list room n after → n ≡ length (take n after)
reported-front list room after n h = sym (length-take-le n after (reported-within list room after n h))
