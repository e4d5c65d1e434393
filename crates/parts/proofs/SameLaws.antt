-- The open packet as it is kept follows the packing rule's open packet.
use Prim.Native.Nat.{ℕ, ◌+◌, ◌≤◌, ◌<◌}
use mathlib.Core.Path.{◌≡◌, refl, sym, ap, ◌∙◌}
use mathlib.Core.List.{List, [], ◌∷◌}
use mathlib.Core.Bool.{Bool, true, false, ◌&&◌, cond}
use native.Mathlib.Omega.{arith}
use lib.Dec.{eqb}
use lib.ListN.{length, take}
use lib.Seq.{take-append_seam}
use borrow.Author.Tests.{ltb-false}
use Rattle.lbp16.specs.Space.{row}
use Rattle.lbp16.proofs.SpaceLaws.{bytes_le, element_pos}
use Rattle.packet.specs.Step.{Step}
use Rattle.packet.proofs.StepLaws.{row_plain}
use Rattle.packet.specs.Rules.{past_end}
use Rattle.cue.specs.Packing.{Open, commands_of, started, turn}
use Rattle.cue.specs.Output.{output_of}
use Rattle.cue.specs.Inside.{room_after}
use Rattle.cue.specs.Summary.{Progress, summary, turned_by, joined_by, started_by, closed_by, agrees, fits}
use Rattle.cue.specs.Compile.{bytes_of_output}
use Rattle.cue.specs.Records.{brief}
use Rattle.cue.specs.declared.packer.Packer.{Packer}
use Rattle.cue.proofs.RecordLaws.{good-element}
use Rattle.cue.proofs.PackingLaws.{turn-cases}
use Rattle.cue.proofs.PackerLaws.{Fine, Following, next, grown, advance, finished}
use Rattle.cue.proofs.LoopLaws.{end_is}
use Rattle.cue.proofs.RoomLaws.{room_of, wrote-next}
use Rattle.parts.specs.Rule.{Opened, none, some, closes, opens, last_of, packing_rule}
use Rattle.parts.specs.State.{Held, unopened, written, held_turned, held_packing}
use Rattle.parts.specs.Inside.{Sound}
use Rattle.parts.proofs.SoundLaws.{next-sound, length-wrote}

-- as the compiler sees an open packet before which none was closed
abbrev pub progress_of : Opened → Progress
progress_of none = Progress.none
progress_of (some o) = Progress.some [] o

-- `old`: what the room held before
pub record Same (o : Opened) (h : Held) : Type 0 where
  pub following : Following (progress_of o) h.packer
  pub old : List ℕ
  pub long : length old ≡ 1476
  pub now : h.room ≡ room_of (progress_of o) old
  pub wide : length h.room ≡ 1476
  pub sound : Sound h.packer
  pub low : h.packer.address < 65536

pub same_first : (room : List ℕ) → length room ≡ 1476 → Same none (record { packer = unopened; room = room })
unfolding unopened summary room_after finished bytes_of_output output_of
same_first room l =
    record {
      following = record { unlock = false; packer = refl; rising = tt };
      old = room;
      long = l;
      now = refl;
      wide = l;
      sound = Sound.unopened false refl;
      low = omega arith;
    }

-- the front of the room is the open packet's output
room-front : (s : Progress) (u : Bool) (old : List ℕ) → take (summary s u).end (room_of s old) ≡ bytes_of_output (finished s)
unfolding room_after
room-front s u old = rw end_is (take-append_seam (bytes_of_output (finished s)) _)

last-finished : (o : Opened) → last_of o ≡ finished (progress_of o)
unfolding last_of finished
last-finished none = refl
last-finished (some o) = refl

pub same-last : (o : Opened) (h : Held) → Same o h → packing_rule.last o ≡ held_packing.last h
unfolding packing_rule held_packing
same-last o h s =
    sym (rw (s.now, s.following.packer) (room-front (progress_of o) s.following.unlock s.old) ∙ ap bytes_of_output (sym (last-finished o)))

-- the output of an open packet that a packer knows
alone-length : (o : Open) (q : Packer) → Following (Progress.some [] o) q → q.packet ≤ 1472
    → length (bytes_of_output (finished (Progress.some [] o))) ≤ 1476
unfolding summary bytes_of_output output_of
alone-length o q f h =
    let e = end_is (Progress.some [] o) f.unlock in
    let k = rw f.packer at h in
    omega arith

-- a good record's address has sixteen bits, and so has the last command's
fine-address : (x : Step) → Fine x → x.address < 65536
unfolding past_end
fine-address x f =
    let g = good-element x f.good in
    let r = row_plain x.kind x.space f.plain in
    let inside = ltb-false (row x.space).bytes (x.address + (row x.space).element) (rw r at g.2) in
    omega (arith, bytes_le x.space, element_pos x.space g.0)

turned-address : (p : Packer) (x : Step) → p.address < 65536 → x.address < 65536 → (turned_by p (brief x)).address < 65536
unfolding turned_by joined_by started_by brief
turned-address p x a b = go (agrees p (brief x) && fits (joined_by p (brief x))) (fits (started_by p (brief x)))
  where
    go : (j s : Bool) → (cond j (joined_by p (brief x)) (cond s (started_by p (brief x)) (started_by (closed_by p) (brief x)))).address < 65536
    go true s = a
    go false true = b
    go false false = b

-- a record that closes no packet
module _ (o : Opened) (h : Held) (x : Step) (s : Same o h) (f : Fine x) (p : Open)
    (e : advance (progress_of o) x ≡ Progress.some [] p) where
  abbrev q : Packer
  q = turned_by h.packer (brief x)

  follows : Following (Progress.some [] p) q
  follows =
      let n = next (progress_of o) s.following.unlock x f s.following.rising in
      let k : Following (advance (progress_of o) x) q = rw s.following.packer n in
      rw e at k

  one : eqb q.packets 2 ≡ false
  unfolding summary
  one = rw follows.packer refl

  pub kept_open : Same (some p) (written q x h.room)
  unfolding written
  kept_open =
      let l : length (bytes_of_output (finished (advance (progress_of o) x))) ≤ length s.old =
      rw (e, s.long) (alone-length p q follows (grown h.packer (brief x)).packet) in
      record {
        following = follows;
        old = s.old;
        long = s.long;
        now =
            rw (s.now, s.following.packer, ← e)
            (wrote-next (progress_of o) s.following.unlock x f s.following.rising s.old l);
        wide = length-wrote q x.bytes h.room ∙ s.wide;
        sound = Sound.alone (next-sound x s.sound one);
        low = turned-address h.packer x s.low (fine-address x f);
      }

  pub turned_open : held_turned h x ≡ record { out = []; packet = written q x h.room }
  unfolding held_turned
  turned_open = rw one refl

-- a record that closes the packet
module _ (o : Open) (h : Held) (x : Step) (s : Same (some o) h) (f : Fine x) (p : Open)
    (e : advance (Progress.some [] o) x ≡ Progress.some (commands_of o ∷ []) p) where
  two : eqb (turned_by h.packer (brief x)).packets 2 ≡ true
  unfolding summary
  two =
      let n = next (Progress.some [] o) s.following.unlock x f s.following.rising in
      let k : Following (advance (Progress.some [] o) x) (turned_by h.packer (brief x)) = rw s.following.packer n in
      let m : Following (Progress.some (commands_of o ∷ []) p) (turned_by h.packer (brief x)) = rw e at k in
      rw m.packer refl

  turned-closed : held_turned h x
      ≡ record { out = take h.packer.end h.room; packet = written (turned_by unopened (brief x)) x h.room }
  unfolding held_turned
  turned-closed = rw two refl

-- The packet kept and the packing rule's hand out the same and stay alike.
pub same_turn : (o : Opened) (h : Held) (x : Step) → Same o h → Fine x
    → ((packing_rule.turned o x).out ≡ (held_packing.turned h x).out) × Same (packing_rule.turned o x).packet (held_packing.turned h x).packet
unfolding packing_rule held_packing closes opens bytes_of_output output_of advance last_of
same_turn none h x s f =
    rw (turned_open none h x s f (started [] x) refl) (refl, kept_open none h x s f (started [] x) refl)
same_turn (some o) h x s f = turn-cases o x (λ t. turn o x ≡ t → Goal) (λ _ e. open_case _ e) (λ _ e. open_case _ e) closing refl
  where
    Goal : Type 0
    Goal = (bytes_of_output (turn o x).closed ≡ (held_turned h x).out) × Same (some (turn o x).open?) (held_turned h x).packet

    open_case : (p : Open) → turn o x ≡ record { closed = []; open? = p } → Goal
    open_case p e =
        let a : advance (Progress.some [] o) x ≡ Progress.some [] p = rw e refl in
        rw (e, turned_open (some o) h x s f p a) (refl, kept_open (some o) h x s f p a)

    closing : turn o x ≡ record { closed = commands_of o ∷ []; open? = started [] x } → Goal
    closing e =
        let a : advance (Progress.some [] o) x ≡ Progress.some (commands_of o ∷ []) (started [] x) = rw e refl in
        let k = same_first h.room s.wide in
        rw (e, turned-closed o h x s f (started [] x) a)
        (same-last (some o) h s, kept_open none (record { packer = unopened; room = h.room }) x k f (started [] x) refl)
