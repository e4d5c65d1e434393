-- Answers that have values or a refusal, as the papers list them.
use Rattle.std.specs.Prelude.{ℕ, List, [], ◌∷◌, Result, Ok, Err}
use Rattle.lbp16.specs.Answer.{Answer, accepted, refusal}
use Rattle.lbp16.specs.declared.Refusal.{Refusal}
use Rattle.capture.specs.declared.Recorded.{Recorded}
use Rattle.cue.specs.declared.Packed.{Packed}
use Rattle.cue_text.specs.declared.Written.{Written}
use Rattle.salvage.specs.declared.Kept.{Kept}
use Rattle.sserial.specs.declared.count.FieldCounts.{FieldCounts}

unfoldable pub listed_by : {T : Type 0} → (T → List ℕ) → Result T Refusal → Answer
listed_by values (Ok v) = accepted (values v)
listed_by values (Err r) = refusal r

-- a length alone
abbrev pub length_listed : ℕ → List ℕ
length_listed n = n ∷ []

abbrev pub packed_listed : Packed → List ℕ
packed_listed p = p.bytes ∷ p.packets ∷ []

abbrev pub written_listed : Written → List ℕ
written_listed w = w.bytes ∷ w.count ∷ []

abbrev pub recorded_listed : Recorded → List ℕ
recorded_listed r = r.bytes ∷ r.packets ∷ []

abbrev pub kept_listed : Kept → List ℕ
kept_listed k = k.bytes ∷ k.entries ∷ []

abbrev pub fields_listed : FieldCounts → List ℕ
fields_listed f = f.inputs ∷ f.outputs ∷ []
