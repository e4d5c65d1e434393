use Prim.Native.Nat.{◌^◌, ◌<◌}
use mathlib.Core.Path.{◌≡◌, refl, sym, ap, ◌∙◌}
use borrow.Author.Rules.{rules}
use lib.ListN.{length}
use Rattle.cue.specs.Output.{Front, frame_listed}
use Rattle.cue.proofs.FrameLaws.{whole-frame}
use Rattle.lbpdis_output.specs.Said.{part_text, passed_by, pointers_by}
use Rattle.lbpdis_output.proofs.PartLaws.{cut-size, unmarked-size, end-size, ends, goes_on_lem}
use Rattle.lbpdis_output.proofs.put_part.Goals as goal

-- a lemma's facts, as the clauses have names
named2 : {A B R : Type 0} → (A → B → R) → A × B → R
named2 f h = f h.0 h.1

pub put_framed-requires : goal.put_framed-requires
put_framed-requires c = (whole-frame _ _ (sym (ap frame_listed c.in-Whole.is) ∙ c.frame_at-frame.ensures)).within

pub returns-in-End : goal.returns-in-End
unfolding part_text passed_by pointers_by
returns-in-End c = let l : length c.args.room.now ≡ 69760 = search rules in
    named2 (λ h0 h1. record { said = h0; within = h1 })
    (ends Front.end _ _ _ _ _ _ _ _ _ (sym c.frame_at-frame.ensures ∙ ap frame_listed c.in-End.is) refl refl (end-size _) l
    c.put_end.ensures c.ended.ensures)

pub returns-in-Cut : goal.returns-in-Cut
unfolding part_text passed_by pointers_by
returns-in-Cut c = let i : c.args.i < 2 ^ 64 = search rules in
    let l : length c.args.room.now ≡ 69760 = search rules in
    named2 (λ h0 h1. record { said = h0; within = h1 })
    (ends Front.cut _ _ _ _ _ _ _ _ _ (sym c.frame_at-frame.ensures ∙ ap frame_listed c.in-Cut.is) refl refl (cut-size _ i) l
    c.put_cut.ensures c.ended-in-Cut.ensures)

pub returns-in-Unmarked : goal.returns-in-Unmarked
unfolding part_text passed_by pointers_by
returns-in-Unmarked c = let i : c.args.i < 2 ^ 64 = search rules in
    let l : length c.args.room.now ≡ 69760 = search rules in
    named2 (λ h0 h1. record { said = h0; within = h1 })
    (ends Front.unmarked _ _ _ _ _ _ _ _ _ (sym c.frame_at-frame.ensures ∙ ap frame_listed c.in-Unmarked.is) refl refl (unmarked-size _ i) l
    c.put_unmarked.ensures c.ended-in-Unmarked.ensures)

pub returns-in-Whole : goal.returns-in-Whole
returns-in-Whole c = let l : length c.args.room.now ≡ 69760 = search rules in
    let e = c.put_framed.ensures in
    named2 (λ h0 h1. record { said = h0; within = h1 }) (goes_on_lem _ _ _ _ _ _ _ _ _ (sym c.frame_at-frame.ensures ∙ ap frame_listed c.in-Whole.is) l e.0 e.1)
