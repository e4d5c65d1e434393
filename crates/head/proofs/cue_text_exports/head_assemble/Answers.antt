use lib.ListN.{take}
use Rattle.cue_text.specs.TextShow.{TextShow}
use Rattle.head.specs.CueTextExports.{export_assemble}
use Rattle.head.proofs.CueTextExportLaws.{text-some, text-answered}
use Rattle.head.proofs.ListingLaws.{text_numbers}
use Rattle.head.proofs.cue_text_exports.head_assemble.Goals as goal

-- a lemma's facts, as the clauses have names
named2 : {A B R : Type 0} → (A → B → R) → A × B → R
named2 f h = f h.0 h.1

pub returns : goal.returns
unfolding export_assemble
returns c = let a = c.args in
    let e = c.assemble.ensures in
    named2 (λ h0 h1. record { assembled = h0; text_show = h1 })
    (text-answered _ _ _ _ e.assembled (text_numbers _ c.numbers_of-given.ensures) (text-some _ _) (λ b. TextShow a.text.now (take b c.assemble.new.out)) e.text_show)
