-- A line's record as bytes of a list: what the compiler finds in them is the record.
use Prim.Native.Nat.{ℕ, ◌+◌, ◌*◌, ◌/◌, ◌%◌, ◌≤◌, ◌<◌}
use mathlib.Core.Path.{◌≡◌, refl, sym, ap, ◌∙◌}
use mathlib.Core.List.{List, [], ◌∷◌, ◌++◌}
use mathlib.Core.Bool.{Bool, true, false}
use native.Mathlib.Omega.{arith}
use lib.ListN.{length, take}
use Rattle.lbp16.specs.Space.{Space, registers, eeprom, status, information, absent, space_of as space, row}
use Rattle.packet.specs.Bytes.{number, bytes_of}
use Rattle.packet.specs.Step.{carried, is_write}
use Rattle.packet.specs.Rules.{first}
use Rattle.packet.specs.Command.{pick_kind}
use Rattle.cue.specs.Records.{record_refusals, record_step, record_kind, record_bytes, record_space, bytes_of_value, mark_at}
use Rattle.cue.specs.Packing.{join_all}
use Rattle.cue.proofs.ReadingLaws.{passing}
use Rattle.cue.proofs.OwnBytesLaws.{same_kind_lem, same_step_lem, judged-alike}
use Rattle.cue_text.specs.Text.{bytes_of_cue, step_of}
use Rattle.cue_text.specs.Assembled.{list_of}
use Rattle.cue_text.specs.declared.line.Cue.{Cue}
use Rattle.cue_text.proofs.SaidLaws.{cue-length}

abbrev cue : Bool → ℕ → ℕ → ℕ → Cue
cue w s a v = record { write = w; space = s; address = a; value = v }

kind-of : (w : Bool) (s a v : ℕ) → record_kind (bytes_of_cue (cue w s a v)) ≡ pick_kind w
unfolding record_kind mark_at bytes_of_cue bytes_of number
kind-of true s a v = refl
kind-of false s a v = refl

lower : (s : Space) (v : ℕ) → take (row s).element (bytes_of 4 v) ≡ bytes_of (row s).element v
unfolding row bytes_of
lower registers v = refl
lower eeprom v = refl
lower status v = refl
lower information v = refl
lower absent v = refl

step-of : (w : Bool) (s a v : ℕ) → a < 65536 → record_step (bytes_of_cue (cue w s a v)) ≡ step_of (cue w s a v)
unfolding record_step record_kind record_space bytes_of_value mark_at step_of bytes_of_cue bytes_of number carried
step-of true s a v h =
    let e : a % 256 + 256 * (a / 256 % 256 + 256 * 0) ≡ a = omega arith in
    rw (e, lower (space s) v) refl
step-of false s a v h =
    let e : a % 256 + 256 * (a / 256 % 256 + 256 * 0) ≡ a = omega arith in
    rw e refl

-- a list of records, one by one
pub list-none : list_of [] ≡ []
unfolding list_of join_all
list-none = refl

pub list_cons : (c : Cue) (cs : List Cue) → list_of (c ∷ cs) ≡ bytes_of_cue c ++ list_of cs
unfolding list_of join_all
list_cons c cs = refl

module _ (c : Cue) where
  pub cue-kind : record_kind (bytes_of_cue c) ≡ pick_kind c.write
  cue-kind = kind-of c.write c.space c.address c.value

  pub cue-whole : length (bytes_of_cue c) ≡ record_bytes (record_kind (bytes_of_cue c))
  cue-whole = cue-length c ∙ ap record_bytes (sym cue-kind)

  whole : record_bytes (record_kind (bytes_of_cue c)) ≤ length (bytes_of_cue c)
  whole = let e = cue-whole in omega arith

  pub cue-some : 6 ≤ length (bytes_of_cue c)
  unfolding record_bytes is_write
  cue-some = rw (cue-length c) (go c.write)
    where
      go : (w : Bool) → 6 ≤ record_bytes (pick_kind w)
      go true = omega arith
      go false = omega arith

  -- in front of anything
  module _ (rest : List ℕ) where
    pub cue-front : record_bytes (record_kind (bytes_of_cue c ++ rest)) ≡ length (bytes_of_cue c)
    cue-front = ap record_bytes (same_kind_lem (bytes_of_cue c) rest (omega (arith, cue-some))) ∙ sym cue-whole

    pub cue-step : c.address < 65536 → record_step (bytes_of_cue c ++ rest) ≡ step_of c
    cue-step h = same_step_lem (bytes_of_cue c) rest whole ∙ step-of c.write c.space c.address c.value h

    -- no rule refuses it there exactly if none refuses it alone
    pub cue-passes : (index : ℕ) → first (record_refusals index (bytes_of_cue c)) ≡ 0 → first (record_refusals index (bytes_of_cue c ++ rest)) ≡ 0
    cue-passes index e =
        let few = (passing index (bytes_of_cue c) e).few in
        judged-alike index index (bytes_of_cue c) rest whole few few ∙ e

    pub cue-alone : (index : ℕ) → first (record_refusals index (bytes_of_cue c ++ rest)) ≡ 0 → first (record_refusals index (bytes_of_cue c)) ≡ 0
    cue-alone index e =
        let few = (passing index (bytes_of_cue c ++ rest) e).few in
        sym (judged-alike index index (bytes_of_cue c) rest whole few few) ∙ e
