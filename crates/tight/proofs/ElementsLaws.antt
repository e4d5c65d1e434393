-- The elements of a plain command, taken one after the other.
use Prim.Native.Nat.{ℕ, suc, ◌+◌, ◌-◌, ◌*◌, ◌≤◌, ◌<◌}
use mathlib.Core.Path.{◌≡◌, refl, sym, ap, ◌∙◌}
use mathlib.Core.List.{List, ◌∷◌}
use mathlib.Core.Bool.{false}
use native.Mathlib.Omega.{arith}
use native.Mathlib.Nat.{suc-mul}
use lib.ListN.{length, take, drop, length-drop}
use lib.Seq.{drop-drop}
use Rattle.lbp16.specs.Space.{space_of}
use Rattle.lbp16.specs.declared.word.Fields.{Fields}
use Rattle.packet.specs.Step.{Step, is_info, carried}
use Rattle.packet.specs.Command.{pick_kind, kind_of, stride, elements}
use Rattle.packet.proofs.StepLaws.{pick-again}
use Rattle.packet.proofs.ElementLaws.{write-kind, row_le}
use Rattle.packet.proofs.CommandLaws.{stride_le}
use Rattle.packet.proofs.SliceLaws.{tail-whole}
use Rattle.tight.specs.Inside.{element_step, step_takes, steps_take}
use Rattle.std.proofs.Common.{Option, Some, None}
use Rattle.tight.proofs.TakeLaws.{Taking, taking-first, taking-last, taking-rejected, taking-next}

plain-kind : (f : Fields) → is_info (kind_of f) ≡ false → kind_of f ≡ pick_kind f.write
plain-kind f e = sym (pick-again (kind_of f) e) ∙ ap pick_kind (write-kind f)

-- n elements of the command, from this address and these bytes on
abbrev from : Fields → ℕ → ℕ → ℕ → List ℕ → List Step
from f n address step bytes = elements (pick_kind f.write) (space_of f.space) n address step bytes

-- i elements are taken
pub record Elements (f : Fields) (used : ℕ) (bytes list : List ℕ) (step element taken address at i : ℕ) : Type 0 where
  pub taking : Taking (from f f.count used step bytes) (from f (f.count - i) address step (drop at bytes)) list taken
  pub plain : is_info (kind_of f) ≡ false
  pub step_is : step ≡ stride f
  pub element-is : element ≡ carried (pick_kind f.write) (space_of f.space)
  pub few : i ≤ f.count
  pub bytes_left : at + (f.count - i) * element ≤ length bytes
  pub low : address ≤ 65536 + 4 * i

pub elements-first : (f : Fields) (used : ℕ) (bytes list : List ℕ) (step element : ℕ) → is_info (kind_of f) ≡ false → used ≤ 65536
    → f.count * carried (kind_of f) (space_of f.space) ≤ length bytes → step ≡ stride f
    → element ≡ carried (pick_kind f.write) (space_of f.space) → Elements f used bytes list step element 0 used 0 0
elements-first f used bytes list step element p u l s e =
    let z : f.count - 0 ≡ f.count = omega arith in
    let b : f.count * element ≤ length bytes = rw e (rw (plain-kind f p) at l) in
    record {
      taking = rw z (taking-first _ list);
      plain = p;
      step_is = s;
      element-is = e;
      few = omega arith;
      bytes_left = rw z (omega arith);
      low = omega arith;
    }

module _ {f : Fields} {used : ℕ} {bytes list : List ℕ} {step element taken address at i : ℕ}
    (e : Elements f used bytes list step element taken address at i) where
  whole_is : from f f.count used step bytes ≡ elements (kind_of f) (space_of f.space) f.count used (stride f) bytes
  whole_is = rw (e.step_is, plain-kind f e.plain) refl

  pub step_small : step ≤ 4
  step_small = rw e.step_is (omega (arith, stride_le f, row_le f))

  pub elements-last : f.count ≤ i
      → Some taken ≡ steps_take (elements (kind_of f) (space_of f.space) f.count used (stride f) bytes) list
  unfolding elements
  elements-last h =
      let z : f.count - i ≡ 0 = omega arith in
      sym (taking-last (rw z at e.taking)) ∙ ap (λ ss. steps_take ss list) whole_is

  module _ (h : i < f.count) where
    one_more_lem : f.count - i ≡ suc (f.count - (i + 1))
    one_more_lem = omega arith

    -- the element's bytes and those of the elements behind it
    bytes_next : at + element + (f.count - (i + 1)) * element ≤ length bytes
    bytes_next = let l = rw (one_more_lem, suc-mul) at e.bytes_left in omega arith

    pub element-within : at + element ≤ length bytes
    element-within = let l = bytes_next in omega arith

    pub element-handed : carried (pick_kind f.write) (space_of f.space) ≤ length (drop at bytes)
    element-handed = let l = element-within in rw (← e.element-is, length-drop) (omega arith)

    now-taking : Taking (from f f.count used step bytes)
        (element_step f.write f.space address (drop at bytes)
        ∷ from f (f.count - (i + 1)) (address + step) step (drop (at + element) bytes))
        list
        taken
    unfolding elements element_step
    now-taking =
        rw (e.element-is, ← drop-drop (carried (pick_kind f.write) (space_of f.space)) at bytes) (rw one_more_lem at e.taking)

    -- what the code says of the element, handed the tails of the command and of the list
    module _ (next : Option ℕ)
        (q : next
        ≡ step_takes (element_step f.write f.space address (take (length bytes - at) (drop at bytes)))
        (take (length list - taken) (drop taken list))) where
      answer : step_takes (element_step f.write f.space address (drop at bytes)) (drop taken list) ≡ next
      answer = rw (tail-whole at bytes, tail-whole taken list) at (sym q)

      pub elements-rejected : next ≡ None
          → None ≡ steps_take (elements (kind_of f) (space_of f.space) f.count used (stride f) bytes) list
      elements-rejected r = sym (taking-rejected now-taking (answer ∙ r)) ∙ ap (λ ss. steps_take ss list) whole_is

      pub elements-next : (n : ℕ) → next ≡ Some n
          → Elements f used bytes list step element (taken + n) (address + step) (at + element) (i + 1)
      elements-next n r =
          let s = step_small in
          let l = e.low in
          record {
            taking = taking-next now-taking n (answer ∙ r);
            plain = e.plain;
            step_is = e.step_is;
            element-is = e.element-is;
            few = omega arith;
            bytes_left = bytes_next;
            low = omega arith;
          }
