-- Taking a byte, as the code does it.
use Prim.Native.Nat.{ℕ, ◌+◌, ◌≤◌}
use mathlib.Core.Path.{◌≡◌, refl, sym, ap, ◌∙◌}
use mathlib.Core.List.{List, ◌++◌}
use mathlib.Core.Bool.{true, false, not, ◌||◌, ◌&&◌}
use native.Mathlib.Omega.{arith}
use lib.Dec.{eqb, ltb}
use lib.ListN.{length, take, drop, length-append, length-drop}
use borrow.Author.Tests.{eq-eqb, ne_eqb}
use lib.Seq.{length-take-le}
use Rattle.std.specs.Prelude.{Result, Ok, Err}
use Rattle.std.specs.Result.{is_err}
use Rattle.lbp16.specs.Answer.{ruled}
use Rattle.lbp16.specs.declared.Rule.{Rule}
use Rattle.packet.specs.Step.{Step}
use Rattle.packet.specs.Command.{pick_kind}
use Rattle.packet.specs.Rules.{first}
use Rattle.cue.specs.Records.{record_step, record_refusals}
use Rattle.cue.specs.Summary.{Progress, summary, carried_by, turned_by, wrote}
use Rattle.cue.specs.Records.{record_at, brief}
use Rattle.cue.specs.Untrusted.{turned_within, put_within}
use Rattle.cue.specs.declared.records.Record.{Record}
use Rattle.cue.specs.declared.packer.Packer.{Packer}
use Rattle.cue.proofs.ReadingLaws.{passing}
use Rattle.cue.proofs.PackerLaws.{grown, carried-brief}
use Rattle.cue.proofs.EmitLaws.{element-whole, bytes_are}
use Rattle.cue.proofs.UntrustedLaws.{turned-roomy}
use Rattle.parts.specs.State.{Held, unopened, held_turned, held_packing, written, standing_of}
use Rattle.parts.specs.Inside.{Alone, Sound, Good, Rooms, Ranged, Turns, Leaves, meant}
use Rattle.parts.proofs.SoundLaws.{sound-roomy, sound-end, first_alone, next-sound, alone-within, length-wrote}
use Rattle.cue.specs.Records.{mark_at, read_mark, write_mark, record_kind, record_bytes, most_records}
use Rattle.parts.specs.Taking.{unknown_mark, decided_at, record_taken}
use Rattle.parts.specs.declared.state.Kept.{Kept}
use native.Mathlib.Nat.{le_trans}

-- which byte decides, by the tests that the code makes
module _ (index m : ℕ) (rest : List ℕ) (e : m ≡ mark_at rest) where
  pub decided-most : index ≡ most_records → 1 ≡ decided_at index rest
  unfolding decided_at
  decided-most h = rw (eq-eqb _ _ h) refl

  module _ (few : index ≡ most_records → ⊥) where
    pub decided_early : (ltb (length rest) 2 || (not (eqb m read_mark) && not (eqb m write_mark))) ≡ true
        → 2 ≡ decided_at index rest
    unfolding decided_at unknown_mark
    decided_early t = rw (ne_eqb index most_records few, ← e, t) refl

    pub decided-late : (n : ℕ) → (ltb (length rest) 2 || (not (eqb m read_mark) && not (eqb m write_mark))) ≡ false
        → n ≡ record_bytes (pick_kind (eqb m write_mark)) → n ≡ decided_at index rest
    unfolding decided_at unknown_mark record_kind
    decided-late n t d = rw (ne_eqb index most_records few, ← e, t) d

-- the packet that is handed out
pub front_length : (p : Packer) (room : List ℕ) → Sound p → length room ≡ 1476 → p.end ≡ length (take p.end room)
front_length p room s l = sym (length-take-le p.end room (rw l (sound-end s)))

pub front_fits : (p : Packer) (room out : List ℕ) → Sound p → Rooms room out → length (take p.end room) ≤ length out
front_fits p room out s r = rw (← front_length p room s r.held) (le_trans (sound-end s) r.lent)

-- a record packed, as the code does it
module _ (p : Packer) (rest room : List ℕ) (s : Sound p) (good : Good rest) (r : Record) (a : r ≡ record_at rest) where
  abbrev x : Step
  x = record_step rest

  abbrev h : Held
  h = record { packer = p; room = room }

  brief-is : r ≡ brief x
  brief-is = a ∙ (passing good.index rest good.passes).read

  turned-is : (q : Packer) → q ≡ turned_within p r → q ≡ turned_by p (brief x)
  turned-is q e = e ∙ turned-roomy p r (sound-roomy s) ∙ ap (turned_by p) brief-is

  first-is : (q e : Packer) → e ≡ unopened → q ≡ turned_within e r → q ≡ turned_by unopened (brief x)
  unfolding unopened
  first-is q e z d =
      let w : Sound e = Sound.unopened false z in
      d ∙ turned-roomy e r (sound-roomy w) ∙ rw z (ap (turned_by (summary Progress.none false)) brief-is)

  module _ (q : Packer) (d : q ≡ turned_within p r) (out : List ℕ) where
    pub turns_open : (q.packets ≡ 2 → ⊥) → Turns h x q 0 out out
    unfolding held_turned
    turns_open z =
        let e = turned-is q d in
        let y : eqb (turned_by p (brief x)).packets 2 ≡ false = rw (← e) (ne_eqb _ _ z) in
        record {
          packet = rw (y, e) refl;
          count = rw y refl;
          handed = rw y refl;
          lent = refl;
          alone = rw e (next-sound x s y);
          behind = rw e (grown p (brief x)).unlock;
        }

    pub turns-closed : q.packets ≡ 2 → Rooms room out → (e f : Packer) (now : List ℕ) → e ≡ unopened → f ≡ turned_within e r
        → now ≡ take p.end room ++ drop (length (take p.end room)) out → Turns h x f p.end now out
    unfolding held_turned unopened
    turns-closed z l e f now u g n =
        let y : eqb (turned_by p (brief x)).packets 2 ≡ true = rw (← turned-is q d) (eq-eqb _ _ z) in
        let w = first-is f e u g in
        let size : p.end ≡ length (take p.end room) = front_length p room s l.held in
        let end = sound-end s in
        record {
          packet = rw (y, w) refl;
          count = rw y size;
          handed = rw y n;
          lent = rw (n, length-append, length-drop, ← size) (omega (arith, l.lent, l.held));
          alone = rw w (first_alone x false);
          behind = rw w (grown unopened (brief x)).unlock;
        }

-- what is written for a record
put-wrote : (q : Packer) (rest room : List ℕ) → Good rest → Alone q → (q.unlock ≡ true → 6 ≤ q.word) → 1476 ≤ length room
    → put_within q rest room ≡ wrote q (record_step rest).bytes room
unfolding put_within
put-wrote q rest room good a u l =
    let w = passing good.index rest good.passes in
    let n : 6 + carried_by (record_at rest) ≤ length rest =
    rw (w.read, carried-brief (record_step rest) w.plain)
    (le_trans (element-whole (record_step rest).kind (record_step rest).space) w.bytes) in
    rw (alone-within q (carried_by (record_at rest)) (length rest) (length room) a u n l, bytes_are) refl

-- a whole record, as the code takes it
pub record_leaves : (k : Kept) (rest room old : List ℕ) → Ranged k → Rooms room old → first (record_refusals k.index rest) ≡ 0
    → (q : Packer) (n : ℕ) (out room₂ : List ℕ) → Turns (record { packer = k.packer; room = room }) (record_step rest) q n out old
    → room₂ ≡ put_within q rest room
    → Leaves (record_taken held_packing 0 (meant k room) (record_step rest))
    (record { stands = 0; collected = 0; bytes = k.bytes; index = k.index + 1; packer = q }) n room₂ out old
unfolding record_taken held_packing meant standing_of written
record_leaves k rest room old rg rm good q n out room₂ t e =
    let w = passing k.index rest good in
    let d : room₂ ≡ wrote q (record_step rest).bytes room =
    e ∙ put-wrote q rest room (record { index = k.index; passes = good }) t.alone t.behind (omega (arith, rm.held)) in
    record {
      state = rw (t.packet, d) refl;
      written = t.count;
      handed = t.handed;
      lent = t.lent;
      ranged =
          record {
            stands = omega arith;
            known = λ h. omega arith;
            collected = omega arith;
            bytes = rg.bytes;
            index = omega (arith, rg.index, w.few);
            sound = Sound.alone t.alone;
          };
      rooms = record { held = rw (d, length-wrote) rm.held; lent = rw t.lent rm.lent };
    }

-- a record that no rule refuses
pub no_err : (r : Result (Unit {0}) Rule) → is_err r ≡ false → ruled r ≡ 0
no_err (Ok u) e = refl
no_err (Err rule) e = let z : true ≡ false = e in absurd cc
