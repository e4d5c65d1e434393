use Rattle.std.proofs.Common.{◌∙◌, refl, sym, not, eqb}
use Rattle.cue.specs.Records.{mark_at, upper_half}
use Rattle.cue.proofs.ReadingLaws.{is_cut, refused_21, refused_22, refused-later}
use Rattle.cue.proofs.records.lowest_refusal.Goals as goal

pub returns-then-index-eq-MOST : goal.returns-then-index-eq-MOST
returns-then-index-eq-MOST c = refused_21 _ _ c.if-index-eq-MOST.true

pub returns-then-rest-lt6 : goal.returns-then-rest-lt6
returns-then-rest-lt6 c = refused_22 _ _ c.if-index-eq-MOST.false (is_cut _ c.if-rest-lt6.true)

pub returns-then-mark-write : goal.returns-then-mark-write
unfolding mark_at
returns-then-mark-write c = refused_22 _ _
    c.if-index-eq-MOST.false
    (rw (← c.pair_at-mark.ensures, ← c.record_bytes.ensures.0) c.if-mark-write.true)

pub returns-then-bad_element : goal.returns-then-bad_element
unfolding mark_at
returns-then-bad_element c =
    let later = refused-later _ _ (not (eqb (upper_half c.args.rest.now) 0)) (λ h. refl)
    c.if-index-eq-MOST.false
    (rw (← c.pair_at-mark.ensures, ← c.record_bytes.ensures.0) c.if-mark-write.false) in
    rw (sym c.bad_element.ensures ∙ c.if-bad_element.true) at later

pub returns-then-byte_at-write : goal.returns-then-byte_at-write
unfolding mark_at
returns-then-byte_at-write c =
    let later = refused-later _ _ c.too_wide.result c.too_wide.ensures
    c.if-index-eq-MOST.false
    (rw (← c.pair_at-mark.ensures, ← c.record_bytes.ensures.0) c.if-mark-write.false) in
    let spare = rw (c.byte_at.ensures, c.pair_at-mark.ensures) at c.if-byte_at-write.true in
    rw (sym c.bad_element.ensures ∙ c.if-bad_element.false, spare) at later

pub returns : goal.returns
unfolding mark_at
returns c =
    let later = refused-later _ _ c.too_wide.result c.too_wide.ensures
    c.if-index-eq-MOST.false
    (rw (← c.pair_at-mark.ensures, ← c.record_bytes.ensures.0) c.if-mark-write.false) in
    let spare = rw (c.byte_at.ensures, c.pair_at-mark.ensures) at c.if-byte_at-write.false in
    rw (sym c.bad_element.ensures ∙ c.if-bad_element.false, spare) at later
