-- An answer's numbers are those of its listing, whatever its values are.
use mathlib.Core.Path.{◌≡◌, refl, ap, ◌∙◌}
use Rattle.std.specs.Prelude.{ℕ, List, Result, Ok, Err}
use Rattle.lbp16.specs.Answer.{Answer, refusal}
use Rattle.lbp16.specs.declared.Refusal.{Refusal}
use Rattle.packet.specs.Verdict.{verdict_listed}
use Rattle.cue.specs.Compile.{compile_listed}
use Rattle.cue.specs.declared.Packed.{Packed}
use Rattle.cue_text.specs.Assembled.{text_listed}
use Rattle.cue_text.specs.declared.Written.{Written}
use Rattle.capture.specs.Capture.{capture_listed}
use Rattle.capture.specs.declared.Recorded.{Recorded}
use Rattle.salvage.specs.Salvage.{salvage_listed}
use Rattle.salvage.specs.declared.Kept.{Kept}
use Rattle.sserial.specs.Calls.{table_listed}
use Rattle.sserial.specs.declared.count.FieldCounts.{FieldCounts}
use Rattle.head.specs.Exports.{numbers_of}
use Rattle.head.specs.Listing.{listed_by, length_listed, packed_listed, written_listed, recorded_listed, kept_listed, fields_listed}
use Rattle.head.specs.declared.numbers.Numbers.{Numbers}

verdict_is : (a : Result ℕ Refusal) → listed_by length_listed a ≡ verdict_listed a
unfolding listed_by verdict_listed
verdict_is (Ok v) = refl
verdict_is (Err r) = refl

pub verdict_numbers : (a : Result ℕ Refusal) {n : Numbers} → n ≡ numbers_of (listed_by length_listed a) → n ≡ numbers_of (verdict_listed a)
verdict_numbers a e = e ∙ ap numbers_of (verdict_is a)

compiled_is : (a : Result Packed Refusal) → listed_by packed_listed a ≡ compile_listed a
unfolding listed_by compile_listed
compiled_is (Ok v) = refl
compiled_is (Err r) = refl

pub compiled_numbers : (a : Result Packed Refusal) {n : Numbers} → n ≡ numbers_of (listed_by packed_listed a) → n ≡ numbers_of (compile_listed a)
compiled_numbers a e = e ∙ ap numbers_of (compiled_is a)

text_is : (a : Result Written Refusal) → listed_by written_listed a ≡ text_listed a
unfolding listed_by text_listed
text_is (Ok v) = refl
text_is (Err r) = refl

pub text_numbers : (a : Result Written Refusal) {n : Numbers} → n ≡ numbers_of (listed_by written_listed a) → n ≡ numbers_of (text_listed a)
text_numbers a e = e ∙ ap numbers_of (text_is a)

capture_is : (a : Result Recorded Refusal) → listed_by recorded_listed a ≡ capture_listed a
unfolding listed_by capture_listed
capture_is (Ok v) = refl
capture_is (Err r) = refl

pub capture_numbers : (a : Result Recorded Refusal) {n : Numbers} → n ≡ numbers_of (listed_by recorded_listed a) → n ≡ numbers_of (capture_listed a)
capture_numbers a e = e ∙ ap numbers_of (capture_is a)

salvage_is : (a : Result Kept Refusal) → listed_by kept_listed a ≡ salvage_listed a
unfolding listed_by salvage_listed
salvage_is (Ok v) = refl
salvage_is (Err r) = refl

pub salvage_numbers : (a : Result Kept Refusal) {n : Numbers} → n ≡ numbers_of (listed_by kept_listed a) → n ≡ numbers_of (salvage_listed a)
salvage_numbers a e = e ∙ ap numbers_of (salvage_is a)

table_is : (a : Result FieldCounts Refusal) → listed_by fields_listed a ≡ table_listed a
unfolding listed_by table_listed
table_is (Ok v) = refl
table_is (Err r) = refl

pub table_numbers : (a : Result FieldCounts Refusal) {n : Numbers} → n ≡ numbers_of (listed_by fields_listed a) → n ≡ numbers_of (table_listed a)
table_numbers a e = e ∙ ap numbers_of (table_is a)
