-- What head_header and head_header_word return and leave, as the code puts it together.
use Prim.Native.Nat.{ℕ, ◌<◌, ◌≤◌, min}
use mathlib.Core.Path.{◌≡◌, refl, sym, ◌∙◌}
use mathlib.Core.Bool.{Bool, true, false, cond}
use mathlib.Core.List.{List}
use native.Mathlib.Omega.{arith}
use native.Mathlib.Decide.{dec_le}
use lib.ListN.{get_or}
use borrow.Author.Tests.{ne_eqb, lt-ltb, ltb-false}
use Rattle.lbp16.specs.Answer.{refused}
use Rattle.lbp16.proofs.BoolLaws.{or_false}
use Rattle.spi.specs.Spi.{header_written, other_command}
use Rattle.spi.specs.declared.Header.{Header}
use Rattle.packet.specs.Rules.{first}
use Rattle.head.specs.SpiExports.{bad_header}

pub address-fits : (fields : List ℕ) → bad_header fields ≡ false → get_or fields 0 0 ≤ 65535
unfolding bad_header
address-fits fields e = ltb-false _ _ (or_false _ _ e).0

abbrev pub header_with : ℕ → ℕ → Bool → ℕ → Header
header_with address command increment count =
    record { address = address; command = command; increment = increment; count = count }

-- refusals 32 and 33 of a header
no_command : (h : Header) → (h.command ≡ 0xA → ⊥) → (h.command ≡ 0xB → ⊥) → header_written h ≡ refused 32 0
unfolding header_written other_command first
no_command h r w = rw (ne_eqb _ _ r, ne_eqb _ _ w) refl

no_count : (h : Header) → 127 < h.count → header_written h ≡ cond (other_command h) (refused 32 0) (refused 33 0)
unfolding header_written first
no_count h l = by-command (other_command h) refl
  where
    by-command : (b : Bool) → other_command h ≡ b → header_written h ≡ cond (other_command h) (refused 32 0) (refused 33 0)
    by-command true t = rw t refl
    by-command false t = rw (t, ne_eqb h.count 0 (λ e. omega arith), lt-ltb 127 h.count l) refl

-- commands and counts above 255 are refused alike, whichever they are
module _ (a c n c' n' : ℕ) (i : Bool) (p : c' ≡ min c 255) (q : n' ≡ min n 255) where
  pub narrowed : header_written (header_with a c' i n') ≡ header_written (header_with a c i n)
  unfolding other_command
  narrowed = by_size (dec_le c 255) (dec_le n 255)
    where
      by_size : Dec (c ≤ 255) → Dec (n ≤ 255) → header_written (header_with a c' i n') ≡ header_written (header_with a c i n)
      by_size (no h) d = no_command _ (λ e. omega arith) (λ e. omega arith) ∙ sym (no_command _ (λ e. omega arith) (λ e. omega arith))
      by_size (yes h) (no k) =
          let e : c' ≡ c = omega arith in
          rw e (no_count (header_with a c i n') (omega arith) ∙ sym (no_count (header_with a c i n) (omega arith)))
      by_size (yes h) (yes k) =
          let e : c' ≡ c = omega arith in
          let f : n' ≡ n = omega arith in
          rw (e, f) refl
