use lib.ListN.{take}
use Rattle.list_text.specs.SameList.{SameList}
use Rattle.head.specs.CueTextExports.{export_list_text}
use Rattle.head.proofs.CueTextExportLaws.{list-some, text-answered}
use Rattle.head.proofs.ListingLaws.{text_numbers}
use Rattle.head.proofs.cue_text_exports.head_list_text.Goals as goal

-- a lemma's facts, as the clauses have names
named2 : {A B R : Type 0} → (A → B → R) → A × B → R
named2 f h = f h.0 h.1

pub returns : goal.returns
unfolding export_list_text
returns c = let a = c.args in
    let e = c.write.ensures in
    named2 (λ h0 h1. record { written = h0; same_list = h1 })
    (text-answered _ _ _ _ e.written (text_numbers _ c.numbers_of-given.ensures) (list-some _ _) (λ b. SameList a.list.now (take b c.write.new.out)) e.same_list)
