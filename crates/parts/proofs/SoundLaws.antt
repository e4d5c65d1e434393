-- What is kept of the open packet stays in range, whatever packet it is.
use Prim.Native.Nat.{ℕ, ◌+◌, ◌-◌, ◌≤◌}
use mathlib.Core.Path.{◌≡◌, refl}
use mathlib.Core.List.{List}
use mathlib.Core.Bool.{Bool, true, false, ◌&&◌, cond, and-false}
use native.Mathlib.Omega.{arith}
use lib.Dec.{eqb, ltb}
use lib.ListN.{length}
use lib.Seq.{sets, length-sets}
use borrow.Author.Tests.{le-ltb}
use Rattle.packet.specs.Step.{Step}
use Rattle.cue.specs.Summary.{Progress, summary, agrees, fits, joined_by, started_by, closed_by, turned_by, wrote}
use Rattle.cue.specs.Records.{brief}
use Rattle.cue.specs.Inside.{Roomy}
use Rattle.cue.specs.Summary.{framed_at, unlocked_at, headed_at, bytes_of_unlock}
use Rattle.cue.specs.Untrusted.{any_of, outside_tests}
use Rattle.cue.specs.declared.records.Record.{Record}
use Rattle.cue.specs.declared.packer.Packer.{Packer}
use Rattle.cue.proofs.UntrustedLaws.{any_false}
use Rattle.cue.proofs.PackerLaws.{Grown, grown, none-turned}
use Rattle.lbp16.proofs.SpaceLaws.{number_le}
use Rattle.parts.specs.Inside.{Alone, Sound}

pub sound-roomy : {p : Packer} → Sound p → Roomy p
unfolding summary
sound-roomy (Sound.unopened u e) =
    rw e (record { count = omega arith; packet = omega arith; reply = omega arith; end = omega arith; packets = omega arith })
sound-roomy (Sound.alone a) =
    record {
      count = a.count;
      packet = omega (arith, a.packet);
      reply = a.reply;
      end = omega (arith, a.end, a.packet);
      packets = omega (arith, a.packets);
    }

pub sound-end : {p : Packer} → Sound p → p.end ≤ 1476
unfolding summary
sound-end (Sound.unopened u e) = rw e (omega arith)
sound-end (Sound.alone a) = omega (arith, a.end, a.packet)

-- A record that opens no second packet leaves such a packer, and so does the first of a packet.
module _ (x : Step) where
  abbrev r : Record
  r = brief x

  r-space : r.space ≤ 7
  unfolding brief
  r-space = number_le x.space

  joined-alone : (p : Packer) → Alone p → Grown p (joined_by p r) → Alone (joined_by p r)
  unfolding joined_by
  joined-alone p a g =
      record {
        frame = a.frame;
        end = omega (arith, a.end);
        packets = a.packets;
        packet = g.packet;
        some = omega (arith, a.some);
        word = omega (arith, a.word);
        reply = g.reply;
        count = g.count;
        space = a.space;
      }

  started-alone : (p : Packer) → p.frame ≡ 0 → p.end ≡ 4 + p.packet → p.packets ≡ 1 → (started_by p r).packet ≤ 1472
      → (started_by p r).reply ≤ 1472 → Alone (started_by p r)
  unfolding started_by
  started-alone p f e n h k =
      record {
        frame = f;
        end = omega arith;
        packets = n;
        packet = h;
        some = omega arith;
        word = omega arith;
        reply = k;
        count = omega arith;
        space = r-space;
      }

  pub first_alone : (u : Bool) → Alone (turned_by (summary Progress.none u) r)
  unfolding closed_by summary
  first_alone u =
      let g : Grown (summary Progress.none u) (started_by (closed_by (summary Progress.none u)) r) =
      rw (none-turned u x) at (grown (summary Progress.none u) r) in
      rw (none-turned u x) (started-alone (closed_by (summary Progress.none u)) refl refl refl g.packet g.reply)

  second : (p : Packer) → p.packets ≡ 1 → eqb (started_by (closed_by p) r).packets 2 ≡ false → ⊥
  unfolding started_by closed_by
  second p n e = let z : true ≡ false = rw n at e in let y : ◌≡◌ {A = ℕ} 0 1 = cc in omega arith

  pub next-alone : (p : Packer) → Alone p → eqb (turned_by p r).packets 2 ≡ false → Alone (turned_by p r)
  unfolding turned_by
  next-alone p a = go (agrees p r && fits (joined_by p r)) (fits (started_by p r)) (grown p r)
    where
      go : (j s : Bool) → Grown p (cond j (joined_by p r) (cond s (started_by p r) (started_by (closed_by p) r)))
          → eqb (cond j (joined_by p r) (cond s (started_by p r) (started_by (closed_by p) r))).packets 2 ≡ false
          → Alone (cond j (joined_by p r) (cond s (started_by p r) (started_by (closed_by p) r)))
      go true s g e = joined-alone p a g
      go false true g e = started-alone p a.frame a.end a.packets g.packet g.reply
      go false false g e = absurd (second p a.packets e)

  pub next-sound : {p : Packer} → Sound p → eqb (turned_by p r).packets 2 ≡ false → Alone (turned_by p r)
  next-sound (Sound.unopened u e) z = rw e (first_alone u)
  next-sound (Sound.alone a) z = next-alone _ a z

-- such a packer's record may be written
pub alone-within : (q : Packer) (n rest room : ℕ) → Alone q → (q.unlock ≡ true → 6 ≤ q.word) → 6 + n ≤ rest → 1476 ≤ room
    → any_of (outside_tests q n rest room) ≡ false
unfolding outside_tests
alone-within q n rest room a u h k =
    let frame : q.frame ≤ 1472 = omega (arith, a.frame) in
    let word : q.word ≤ 1472 = omega (arith, a.word, a.packet) in
    let end : q.end ≤ 1476 = omega (arith, a.end, a.packet) in
    let some : 4 ≤ q.end = omega (arith, a.end) in
    any_false (outside_tests q n rest room) (
      le-ltb _ _ k,
      (
        le-ltb _ _ frame,
        (
          le-ltb _ _ word,
          (
            behind q.unlock u,
            (
              le-ltb _ _ end,
              (le-ltb _ _ some, (le-ltb _ _ a.space, (le-ltb _ _ a.count, (le-ltb _ _ a.packet, (le-ltb _ _ h, tt))))),
            ),
          ),
        ),
      ),
    )
  where
    behind : (b : Bool) → (b ≡ true → 6 ≤ q.word) → (ltb q.word 6 && b) ≡ false
    behind true f = rw (le-ltb q.word 6 (f refl)) refl
    behind false f = and-false (ltb q.word 6)

-- writing keeps the room's length
length-unlocked : (q : Packer) (room : List ℕ) → length (unlocked_at q room) ≡ length room
unfolding unlocked_at
length-unlocked q room = go q.unlock
  where
    go : (b : Bool) → length (cond b (sets room (q.word - 6) bytes_of_unlock) room) ≡ length room
    go true = length-sets room (q.word - 6) bytes_of_unlock
    go false = refl

pub length-wrote : (q : Packer) (bytes room : List ℕ) → length (wrote q bytes room) ≡ length room
unfolding wrote headed_at framed_at
length-wrote q bytes room = rw (length-sets, length-sets, length-unlocked, length-sets) refl
