-- What is in range where no test holds.
use Prim.Native.Nat.{ℕ, ◌+◌, ◌≤◌}
use mathlib.Core.Path.{◌≡◌, refl, sym, ◌∙◌}
use mathlib.Core.List.{List, [], ◌∷◌}
use mathlib.Core.Bool.{Bool, true, false, ◌&&◌}
use native.Mathlib.Omega.{arith}
use lib.Dec.{ltb}
use lib.ListN.{length, take, drop}
use borrow.Author.Tests.{ltb-false, le-ltb}
use Rattle.lbp16.proofs.BoolLaws.{or_false}
use Rattle.packet.specs.Command.{limit}
use Rattle.cue.specs.Inside.{Roomy, Placed}
use Rattle.cue.specs.Output.{frame_room}
use Rattle.cue.specs.Summary.{carried_by, turned_by, wrote}
use Rattle.cue.specs.Records.{record_at}
use Rattle.cue.specs.Untrusted.{any_of, loose_tests, turned_within, outside_tests, put_within}
use Rattle.cue.specs.declared.records.Record.{Record}
use Rattle.cue.specs.declared.packer.Packer.{Packer}

-- none of the tests holds
abbrev pub NoneOf : List Bool → Type 0
NoneOf [] = Unit
NoneOf (b ∷ bs) = (b ≡ false) × NoneOf bs

pub none_of : (bs : List Bool) → any_of bs ≡ false → NoneOf bs
none_of [] e = tt
none_of (b ∷ []) e = (e, tt)
none_of (b ∷ c ∷ bs) e = let q = or_false b (any_of (c ∷ bs)) e in (q.0, none_of (c ∷ bs) q.1)

pub any_false : (bs : List Bool) → NoneOf bs → any_of bs ≡ false
any_false [] n = refl
any_false (b ∷ []) n = n.0
any_false (b ∷ c ∷ bs) n = rw n.0 (any_false (c ∷ bs) n.1)

pub roomy-within : (p : Packer) → any_of (loose_tests p) ≡ false → Roomy p
unfolding loose_tests
roomy-within p e =
    let (count, (packet, (reply, (end, (packets, _))))) = none_of (loose_tests p) e in
    record {
      count = ltb-false _ _ count;
      packet = ltb-false _ _ packet;
      reply = ltb-false _ _ reply;
      end = ltb-false _ _ end;
      packets = ltb-false _ _ packets;
    }

pub turned-roomy : (p : Packer) (r : Record) → Roomy p → turned_within p r ≡ turned_by p r
unfolding turned_within loose_tests
turned-roomy p r h =
    let e : any_of (loose_tests p) ≡ false =
    any_false (loose_tests p)
    (le-ltb _ _ h.count, (le-ltb _ _ h.packet, (le-ltb _ _ h.reply, (le-ltb _ _ h.end, (le-ltb _ _ h.packets, tt))))) in
    rw e refl

unlock-behind : (b : Bool) (w : ℕ) → (ltb w 6 && b) ≡ false → b ≡ true → 6 ≤ w
unlock-behind b w e t = go (ltb w 6) refl (rw t at e)
  where
    go : (l : Bool) → ltb w 6 ≡ l → (l && true) ≡ false → 6 ≤ w
    go true l z = let y : ◌≡◌ {A = ℕ} 0 1 = cc in absurd (omega arith)
    go false l z = ltb-false _ _ l

pub placed-within : (q : Packer) (n rest room : ℕ) → any_of (outside_tests q n rest room) ≡ false
    → Placed q room × (6 + n ≤ rest)
unfolding outside_tests
placed-within q n rest room e =
    let (wide, (frame, (word, (unlock, (end, (some, (space, (count, (packet, (whole, _)))))))))) = none_of (outside_tests q n rest room) e in
    let w = ltb-false room frame_room wide in
    let f = ltb-false limit q.frame frame in
    let d = ltb-false limit q.word word in
    let g = ltb-false frame_room q.end end in (
      record {
        frame = omega arith;
        word = omega arith;
        unlock = unlock-behind q.unlock q.word unlock;
        end = omega arith;
        element = ltb-false _ _ some;
        space = ltb-false _ _ space;
        count = ltb-false _ _ count;
        packet = ltb-false _ _ packet;
      },
      ltb-false _ _ whole,
    )

-- by the test that the code makes
module _ (p : Packer) (r : Record) (b : Bool) (e : b ≡ any_of (loose_tests p)) where
  pub turned-kept : b ≡ true → p ≡ turned_within p r
  unfolding turned_within
  turned-kept t = let z : any_of (loose_tests p) ≡ true = sym e ∙ t in rw z refl

  pub turned-is : (q : Packer) → b ≡ false → q ≡ turned_by p r → q ≡ turned_within p r
  unfolding turned_within
  turned-is q t d = let z : any_of (loose_tests p) ≡ false = sym e ∙ t in rw z d

module _ (q : Packer) (rest room : List ℕ) (r : Record) (n : ℕ) (b : Bool) (a : r ≡ record_at rest) (c : n ≡ carried_by r)
    (e : b ≡ any_of (outside_tests q n (length rest) (length room))) where
  size : n ≡ carried_by (record_at rest)
  size = rw (← a) c

  pub put-kept : b ≡ true → room ≡ put_within q rest room
  unfolding put_within
  put-kept t = let z : any_of (outside_tests q n (length rest) (length room)) ≡ true = sym e ∙ t in rw (← size, z) refl

  pub put_is : (left : List ℕ) → b ≡ false → left ≡ wrote q (take n (drop 6 rest)) room → left ≡ put_within q rest room
  unfolding put_within
  put_is left t d =
      let z : any_of (outside_tests q n (length rest) (length room)) ≡ false = sym e ∙ t in rw (← size, z) d
