-- Laws of one command: what it means that no rule refuses it, how many bytes it has, and where its elements end.
use Prim.Native.Nat.{ℕ, zero, suc, ◌+◌, ◌*◌, ◌≤◌, ◌<◌}
use mathlib.Core.Path.{◌≡◌, sym, ◌∙◌}
use mathlib.Core.List.{List, ◌++◌}
use mathlib.Core.Bool.{Bool, true, false, cond}
use lib.ListN.{length, drop, length-append}
use lib.Seq.{take_at, drop_at}
use native.Mathlib.Omega.{arith}
use native.Mathlib.Nat.{zero-mul, suc-mul}
use borrow.Author.Tests.{ltb-false, le-ltb, eqb-true, eqb-false, eq-eqb, ne_eqb, not-false}
use Rattle.lbp16.specs.Space.{Space, space_of}
use Rattle.lbp16.specs.Word.{fields_of}
use Rattle.lbp16.specs.Pointer.{above_size, advanced}
use Rattle.lbp16.specs.declared.word.Fields.{Fields}
use Rattle.lbp16.specs.declared.pointer.Pointers.{Pointers}
use Rattle.lbp16.proofs.BoolLaws.{or_false}
use Rattle.lbp16.proofs.PointerLaws.{with_pointer-kept, advanced_exact}
use Rattle.lbp16.proofs.SpaceLaws.{area_bytes_le}
use Rattle.packet.specs.Bytes.{bytes_of}
use Rattle.packet.specs.Step.{Kind, is_info, row_by, carried, answered, reply_bytes}
use Rattle.packet.specs.Rules.{first, misaligned, past_end, any_step}
use Rattle.packet.specs.Command.{fields_at, kind_of, row_of, header_bytes, command_bytes, address_used, stride}
use Rattle.packet.specs.Command.{elements, steps_at, out_of_place, refusals, pointers_after}
use Rattle.packet.specs.Inside.{Passed}
use Rattle.packet.proofs.ByteLaws.{length-bytes, number-of_bytes}
use Rattle.packet.proofs.RuleLaws.{none-holds}
use Rattle.packet.proofs.ElementLaws.{past-last}

-- A command passes exactly when the refusal table gives no number.
module _ (p : Pointers) (open? : Bool) (reply : ℕ) (f : Fields) (rest : List ℕ) where
  pub passed : first (refusals p open? reply f rest) ≡ 0 → Passed p open? reply f rest
  unfolding refusals out_of_place
  passed e =
      let all = none-holds (refusals p open? reply f rest) (omega arith) e in
      let (header, (served, (present, (sized, (some, (place, (allowed, (unlocks, (whole, (answers, end)))))))))) = all in
      let (aligned, inside) = or_false (misaligned (row_of f) (address_used p f rest)) _ place in
      record {
        header = ltb-false _ _ header;
        served = served;
        present = present;
        sized = eqb-true _ _ (not-false _ sized);
        some = let n = eqb-false f.count 0 some in omega arith;
        aligned = aligned;
        inside = inside;
        allowed = allowed;
        unlocks = unlocks;
        whole = ltb-false _ _ whole;
        answers = ltb-false _ _ answers;
      }

  pub passes : Passed p open? reply f rest → first (refusals p open? reply f rest) ≡ 0
  unfolding refusals first out_of_place
  passes h =
      rw (
        le-ltb _ _ h.header,
        h.present,
        eq-eqb _ _ h.sized,
        ne_eqb f.count 0 (let n = h.some in omega arith),
        h.aligned,
        h.inside,
        h.allowed,
        h.unlocks,
        le-ltb _ _ h.whole,
        le-ltb _ _ h.answers,
        h.served,
      )

-- a command has at least the two bytes of its word
pub header-some : (f : Fields) → 2 ≤ header_bytes f
unfolding header_bytes
header-some f = go f.address
  where
    go : (b : Bool) → 2 ≤ cond b 4 2
    go true = omega arith
    go false = omega arith

pub command-some : (f : Fields) → 2 ≤ command_bytes f
unfolding command_bytes
command-some f = omega (arith, header-some f)

-- A word at the front is read into its fields, and the address after it is the one used.
pub fields-at_front : (w : ℕ) (rest : List ℕ) → w < 65536 → fields_at (bytes_of 2 w ++ rest) ≡ fields_of w
unfolding fields_at
fields-at_front w rest h =
    let two : length (bytes_of 2 w) ≡ 2 = length-bytes 2 w in
    rw (length-append, two, le-ltb (2 + length rest) 2 (omega arith), take_at _ rest 2 two, number-of_bytes 2 w h)

pub address-given : (p : Pointers) (f : Fields) (w a : ℕ) (rest : List ℕ) → f.address ≡ true → a < 65536
    → address_used p f (bytes_of 2 w ++ (bytes_of 2 a ++ rest)) ≡ a
unfolding address_used
address-given p f w a rest e h =
    rw (e, drop_at (bytes_of 2 w) _ 2 (length-bytes 2 w), take_at (bytes_of 2 a) _ 2 (length-bytes 2 a), number-of_bytes 2 a h)

pub reply-of_elements : (k : Kind) (s : Space) (n a d : ℕ) (bytes : List ℕ)
    → reply_bytes (elements k s n a d bytes) ≡ n * answered k s
unfolding reply_bytes elements
reply-of_elements k s zero a d bytes = rw zero-mul
reply-of_elements k s (suc n) a d bytes =
    rw (reply-of_elements k s n (a + d) d (drop (carried k s) bytes), suc-mul) (omega arith)

-- the bytes of a command's reply
pub reply-of_command : (p : Pointers) (f : Fields) (rest : List ℕ)
    → reply_bytes (steps_at p f rest) ≡ f.count * answered (kind_of f) (space_of f.space)
unfolding steps_at
reply-of_command p f rest = reply-of_elements _ _ _ _ _ _

-- If no element is past the end, the last one ends within the space.
pub last-inside : (k : Kind) (s : Space) (n a d : ℕ) (bytes : List ℕ)
    → any_step past_end (elements k s (suc n) a d bytes) ≡ false → a + n * d + (row_by k s).element ≤ (row_by k s).bytes
last-inside k s n a d bytes e = ltb-false _ _ (sym (past-last k s n a d bytes) ∙ e)

-- elements stand at most an element's size apart
pub stride_le : (f : Fields) → stride f ≤ (row_of f).element
unfolding stride
stride_le f = go f.increment (row_of f).element
  where
    go : (b : Bool) (e : ℕ) → cond b e 0 ≤ e
    go true e = omega arith
    go false e = omega arith

-- If they stand at most an element's size apart, the address past them all is within the space or at its end.
pub all-inside : (k : Kind) (s : Space) (n a d : ℕ) (bytes : List ℕ) → 1 ≤ n → d ≤ (row_by k s).element
    → any_step past_end (elements k s n a d bytes) ≡ false → a + n * d ≤ (row_by k s).bytes
all-inside k s zero a d bytes l w e = absurd (omega arith)
all-inside k s (suc n) a d bytes l w e = rw suc-mul (omega (arith, last-inside k s n a d bytes e))

-- A command that passes leaves no pointer above its space's size.
pub pointer-kept : (p : Pointers) (open? : Bool) (reply : ℕ) (f : Fields) (rest : List ℕ) → Passed p open? reply f rest
    → above_size p ≡ false → above_size (pointers_after p f rest) ≡ false
unfolding pointers_after steps_at row_of row_by
pointer-kept p open? reply f rest h =
    with_pointer-kept p _ _ _ (all-inside _ _ f.count _ _ _ h.some (stride_le f) h.inside)

-- Past the elements of a command that passes, a pointer's sum is exact.
pub advanced_used : (p : Pointers) (open? : Bool) (reply : ℕ) (f : Fields) (rest : List ℕ) → Passed p open? reply f rest
    → advanced (address_used p f rest) (f.count * stride f) ≡ address_used p f rest + f.count * stride f
unfolding steps_at row_of row_by
advanced_used p open? reply f rest h =
    let l = all-inside _ _ f.count _ _ _ h.some (stride_le f) h.inside in
    let b = area_bytes_le (is_info (kind_of f)) (space_of f.space) in
    advanced_exact _ _ (omega arith) (omega arith)
