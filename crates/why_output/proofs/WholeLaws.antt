-- What is written, from the tests that the code makes.
use Prim.Native.Nat.{ℕ, ◌≤◌, ◌<◌}
use mathlib.Core.Path.{◌≡◌, refl, ◌∙◌}
use mathlib.Core.List.{List, ◌++◌}
use mathlib.Core.Bool.{Bool, true, false, cond}
use lib.ListN.{length}
use borrow.Author.Tests.{lt-ltb, le-ltb, eq-eqb, ne_eqb}
use Rattle.std.specs.Prelude.{is_none}
use Rattle.lbp16.specs.Pointer.{fresh}
use Rattle.lbp16.specs.declared.pointer.Pointers.{Pointers}
use Rattle.text.specs.Number.{ascii}
use Rattle.text.specs.Line.{too_long_line}
use Rattle.why_output.specs.Given.{pointers_in}
use Rattle.why_output.specs.Hex.{hex_of}
use Rattle.why_output.specs.Words.{usage_text}
use Rattle.why_output.specs.Whole.{most_bytes, hex_hint, bytes_text, hex_text, input_text, whole_text}
use Rattle.why_output.specs.declared.words.Words.{Words}

chosen : (b : Bool) (x y : List ℕ) → b ≡ true → cond b x y ≡ x
chosen b x y e = rw e refl

other : (b : Bool) (x y : List ℕ) → b ≡ false → cond b x y ≡ y
other b x y e = rw e refl

module _ (w : Words) (input : List ℕ) (p : Pointers) where
  pub input_long : most_bytes < length input → input_text w input p ≡ too_long_line
  unfolding input_text
  input_long h = chosen _ _ _ (lt-ltb most_bytes (length input) h)

  module _ (h : length input ≤ most_bytes) where
    pub input_hex : w.hex ≡ true → input_text w input p ≡ hex_text w (hex_of input) p
    unfolding input_text
    input_hex e = other _ _ _ (le-ltb most_bytes (length input) h) ∙ chosen w.hex _ _ e

    pub input_bytes : w.hex ≡ false → input_text w input p ≡ bytes_text w input p ++ hex_hint input
    unfolding input_text
    input_bytes e = other _ _ _ (le-ltb most_bytes (length input) h) ∙ other w.hex _ _ e

module _ (w : Words) (found? : Bool) (file input : List ℕ) where
  pub whole_wrong : w.wrong ≡ true → whole_text w found? file input ≡ usage_text
  unfolding whole_text
  whole_wrong e = chosen w.wrong _ _ e

  module _ (e : w.wrong ≡ false) where
    pub whole_fresh : is_none w.name ≡ true → whole_text w found? file input ≡ input_text w input fresh
    unfolding whole_text
    whole_fresh f = other w.wrong _ _ e ∙ chosen (is_none w.name) _ _ f

    module _ (f : is_none w.name ≡ false) where
      pub whole-lost : found? ≡ false → whole_text w found? file input ≡ ascii "the file of pointers cannot be opened\n"
      unfolding whole_text
      whole-lost g = other w.wrong _ _ e ∙ (other (is_none w.name) _ _ f ∙ other found? _ _ g)

      module _ (g : found? ≡ true) where
        pub whole-short : (length file ≡ 32 → ⊥) → whole_text w found? file input ≡ ascii "the file of pointers is not 32 bytes long\n"
        unfolding whole_text
        whole-short h =
            other w.wrong _ _ e ∙ (other (is_none w.name) _ _ f ∙ (chosen found? _ _ g ∙ other _ _ _ (ne_eqb (length file) 32 h)))

        pub whole-given : length file ≡ 32 → whole_text w found? file input ≡ input_text w input (pointers_in file)
        unfolding whole_text
        whole-given h =
            other w.wrong _ _ e ∙ (other (is_none w.name) _ _ f ∙ (chosen found? _ _ g ∙ chosen _ _ _ (eq-eqb (length file) 32 h)))
