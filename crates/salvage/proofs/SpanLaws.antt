-- The first stretch of a list, as the code finds it.
use Prim.Native.Nat.{ℕ, suc, ◌+◌, ◌-◌, ◌≤◌, ◌<◌}
use mathlib.Core.Path.{◌≡◌, refl, sym, ◌∙◌}
use mathlib.Core.List.{List, [], ◌∷◌}
use mathlib.Core.Bool.{true, false}
use native.Mathlib.Omega.{arith}
use native.Mathlib.Nat.{add-zero}
use native.Mathlib.Numerals.{add-one}
use lib.ListN.{length, take, drop, drop_of_length-le}
use lib.Seq.{drop-cons, length-take-le}
use lib.Dec.{eqb}
use borrow.Author.Tests.{ne_eqb}
use Rattle.std.specs.Prelude.{Result, Ok, Err}
use Rattle.std.specs.Result.{is_ok}
use Rattle.lbp16.specs.Answer.{rule_number, ruled}
use Rattle.lbp16.specs.declared.Rule.{Rule}
use Rattle.lbp16.proofs.RuleLaws.{rule_number_range}
use Rattle.packet.specs.Command.{pick_kind}
use Rattle.packet.proofs.SliceLaws.{tail-whole}
use Rattle.cue.specs.Records.{record_kind, record_bytes, record_at}
use Rattle.cue.specs.declared.records.Record.{Record}
use Rattle.salvage.specs.Salvage.{stands, size_at, Stretch, kept, skipped, skip, scan, scan_from}
use Rattle.salvage.specs.Inside.{gap_of, first_span, span_of}
use Rattle.salvage.proofs.ScanLaws.{stands-whole, scan-kept, scan-skip}

-- a record that no rule refuses
pub ok_none : (r : Result (Unit {0}) Rule) → is_ok r ≡ eqb (ruled r) 0
ok_none (Ok u) = refl
ok_none (Err rule) = let some = rule_number_range rule in sym (ne_eqb (rule_number rule) 0 (λ z. omega arith))

pub size_is : (rest : List ℕ) (r : Record) (n : ℕ) → r ≡ record_at rest → n ≡ record_bytes (pick_kind r.write) → n ≡ size_at rest
unfolding record_at record_kind size_at
size_is rest r n e f = f ∙ rw e refl

gap_skip : (b : ℕ) (ss : List Stretch) → gap_of (skip b ss) ≡ suc (gap_of ss)
unfolding gap_of skip
gap_skip b [] = refl
gap_skip b (kept r ∷ ss) = refl
gap_skip b (skipped bs ∷ ss) = refl

gap_of-skip : (rest : List ℕ) (n : ℕ) → n < length rest → stands (drop n rest) ≡ false
    → gap_of (scan (drop n rest)) ≡ 1 + gap_of (scan (drop (n + 1) rest))
gap_of-skip rest n h e =
    let d = drop-cons rest n 0 h in
    let f : stands (_ ∷ drop (suc n) rest) ≡ false = rw d at e in
    rw (d, scan-skip _ _ f, gap_skip, add-one) (omega arith)

pub gap_here : (rest : List ℕ) → stands rest ≡ true → gap_of (scan rest) ≡ 0
unfolding gap_of
gap_here rest e = rw (scan-kept rest e) refl

-- n bytes skipped: the gap is n and that of what is left
pub record Gap (rest : List ℕ) (n : ℕ) : Type 0 where
  pub within : n ≤ length rest
  pub same : gap_of (scan rest) ≡ n + gap_of (scan (drop n rest))

pub gap_first : (rest : List ℕ) → Gap rest 0
gap_first rest = record { within = omega arith; same = omega arith }

module _ (rest : List ℕ) (n : ℕ) (g : Gap rest n) where
  pub gap_more : n < length rest → stands (take (length rest - n) (drop n rest)) ≡ false → Gap rest (n + 1)
  gap_more h e =
      let f : stands (drop n rest) ≡ false = rw tail-whole at e in
      record { within = omega arith; same = g.same ∙ rw (gap_of-skip rest n h f) (omega arith) }

  pub gap_ends : stands (take (length rest - n) (drop n rest)) ≡ true → n ≡ gap_of (scan rest)
  gap_ends e =
      let f : stands (drop n rest) ≡ true = rw tail-whole at e in
      omega (arith, g.same, gap_here (drop n rest) f)

  pub gap_all : length rest ≤ n → n ≡ gap_of (scan rest)
  unfolding gap_of scan scan_from
  gap_all h = sym (g.same ∙ rw (drop_of_length-le rest h) (add-zero n))

-- the first stretch, by what stands in front
pub first-kept : (rest : List ℕ) (n : ℕ) → stands rest ≡ true → n ≡ size_at rest
    → record { kept = true; bytes = n } ≡ first_span (scan rest)
unfolding first_span span_of
first-kept rest n e f =
    let l = length-take-le (size_at rest) rest (stands-whole rest e) in
    rw (scan-kept rest e, f, l) refl

pub first_skipped : (rest : List ℕ) (n : ℕ) → stands rest ≡ false → n ≡ gap_of (scan rest)
    → record { kept = false; bytes = n } ≡ first_span (scan rest)
unfolding scan scan_from gap_of first_span skip span_of
first_skipped [] n e f = rw f refl
first_skipped (b ∷ bs) n e f = rw (f, scan-skip b bs e) (go (scan bs))
  where
    go : (ss : List Stretch) → record { kept = false; bytes = gap_of (skip b ss) } ≡ first_span (skip b ss)
    go [] = refl
    go (kept r ∷ ss) = refl
    go (skipped bs ∷ ss) = refl
