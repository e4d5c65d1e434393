-- Two packings that hand out the same and stay alike, record by record, do so byte by byte and call by call.
use Prim.Native.Nat.{ℕ, zero, suc}
use mathlib.Core.Path.{◌≡◌, refl, ap}
use mathlib.Core.List.{List, [], ◌∷◌, ◌++◌}
use mathlib.Core.Bool.{Bool, true, false, ◌&&◌, cond}
use lib.Dec.{ltb}
use lib.ListN.{length}
use Rattle.packet.specs.Step.{Step}
use Rattle.packet.specs.Rules.{first}
use Rattle.cue.specs.Records.{record_step, record_refusals}
use Rattle.cue.proofs.ReadingLaws.{passing}
use Rattle.cue.proofs.PackerLaws.{Fine}
use Rattle.parts.specs.Taking.{Packing, State, Taken, Stopped, decided_at, faulted_by, record_taken, byte_taken, is_going, goes_on}
use Rattle.parts.specs.Taking.{one_more, bytes_taken, end_taken, part_taken, answered, called}

-- a state with another packet
abbrev pub swap : {P Q : Type 0} → State P → Q → State Q
swap s q = record { standing = s.standing; index = s.index; collected = s.collected; packet = q }

-- states that differ only in the packet, and there are alike
pub record Alike {P Q : Type 0} (S : P → Q → Type 0) (s : State P) (u : State Q) : Type 0 where
  pub packet : Q
  pub state : u ≡ swap s packet
  pub same : S s.packet packet

pub record AlikeTaken {P Q : Type 0} (S : P → Q → Type 0) (a : Taken P) (b : Taken Q) : Type 0 where
  pub out : a.out ≡ b.out
  pub state : Alike S a.state b.state

pub record AlikeStopped {P Q : Type 0} (S : P → Q → Type 0) (a : Stopped P) (b : Stopped Q) : Type 0 where
  pub taken : a.taken ≡ b.taken
  pub left : AlikeTaken S a.left b.left

module _ {P Q : Type 0} (S : P → Q → Type 0) where
  goes_same : (a : Taken P) (b : Taken Q) → AlikeTaken S a b → goes_on a ≡ goes_on b
  unfolding goes_on
  goes_same a b h = rw (h.out, h.state.state) refl

  pub answered-same : (a : Taken P) (b : Taken Q) → AlikeTaken S a b → answered a ≡ answered b
  unfolding answered
  answered-same a b h = rw (h.out, h.state.state) refl

module _ {P Q : Type 0} (S : P → Q → Type 0) (r : Packing P) (t : Packing Q)
    (turns : (p : P) (q : Q) (x : Step) → S p q → Fine x
    → ((r.turned p x).out ≡ (t.turned q x).out) × S (r.turned p x).packet (t.turned q x).packet)
    (ends : (p : P) (q : Q) → S p q → r.last p ≡ t.last q) where
  module _ (s : State P) (q : Q) (h : S s.packet q) where
    record_alike : (rest : List ℕ) (n : ℕ) → first (record_refusals s.index rest) ≡ n
        → AlikeTaken S (record_taken r n s (record_step rest)) (record_taken t n (swap s q) (record_step rest))
    unfolding record_taken faulted_by
    record_alike rest zero e =
        let w = passing s.index rest e in
        let (o, k) = turns s.packet q (record_step rest) h (record { good = w.good; plain = w.plain; wide = w.wide }) in
        record { out = o; state = record { packet = (t.turned q (record_step rest)).packet; state = refl; same = k } }
    record_alike rest (suc n) e = record { out = refl; state = record { packet = q; state = refl; same = h } }

    byte-swap : (b : ℕ) → AlikeTaken S (byte_taken r s b) (byte_taken t (swap s q) b)
    unfolding byte_taken
    byte-swap b = go (ltb (length (s.collected ++ (b ∷ []))) (decided_at s.index (s.collected ++ (b ∷ []))))
      where
        go : (l : Bool)
            → AlikeTaken S
            (cond l
            (record { out = []; state = record { standing = s.standing; index = s.index; collected = (s.collected ++ (b ∷ [])); packet = s.packet } })
            (record_taken r (first (record_refusals s.index (s.collected ++ (b ∷ [])))) s (record_step (s.collected ++ (b ∷ [])))))
            (cond l (record { out = []; state = record { standing = s.standing; index = s.index; collected = (s.collected ++ (b ∷ [])); packet = q } })
            (record_taken t (first (record_refusals s.index (s.collected ++ (b ∷ [])))) (swap s q) (record_step (s.collected ++ (b ∷ [])))))
        go true = record { out = refl; state = record { packet = q; state = refl; same = h } }
        go false = record_alike (s.collected ++ (b ∷ [])) _ refl

    end-swap : (c : List ℕ) → AlikeTaken S (end_taken r s c) (end_taken t (swap s q) c)
    unfolding end_taken faulted_by
    end-swap [] = record { out = ends s.packet q h; state = record { packet = q; state = refl; same = h } }
    end-swap (b ∷ bs) = record { out = refl; state = record { packet = q; state = refl; same = h } }

  byte-alike : (s : State P) (u : State Q) (b : ℕ) → Alike S s u → AlikeTaken S (byte_taken r s b) (byte_taken t u b)
  byte-alike s u b h = rw h.state (byte-swap s h.packet h.same b)

  bytes-alike : (a : Taken P) (b : Taken Q) (bs : List ℕ) → AlikeTaken S a b
      → AlikeStopped S (bytes_taken r a bs) (bytes_taken t b bs)
  unfolding bytes_taken one_more
  bytes-alike a b [] h = record { taken = refl; left = h }
  bytes-alike a b (c ∷ bs) h =
      rw (goes_same S a b h)
      (go (goes_on b) (bytes-alike (byte_taken r a.state c) (byte_taken t b.state c) bs (byte-alike a.state b.state c h.state)))
    where
      go : (g : Bool) → AlikeStopped S (bytes_taken r (byte_taken r a.state c) bs) (bytes_taken t (byte_taken t b.state c) bs)
          → AlikeStopped S
          (cond g (one_more (bytes_taken r (byte_taken r a.state c) bs)) (record { taken = 0; left = a }))
          (cond g (one_more (bytes_taken t (byte_taken t b.state c) bs)) (record { taken = 0; left = b }))
      go true k = record { taken = ap suc k.taken; left = k.left }
      go false k = record { taken = refl; left = h }

  part-alike : (s : State P) (u : State Q) (part : List ℕ) (last : Bool) → Alike S s u
      → AlikeStopped S (part_taken r s part last) (part_taken t u part last)
  unfolding part_taken
  part-alike s u part last h =
      let k = bytes-alike (record { out = []; state = s }) (record { out = []; state = u }) part (record { out = refl; state = h }) in
      rw (goes_same S _ _ k.left) (go (last && goes_on (bytes_taken t (record { out = []; state = u }) part).left) k)
    where
      go : (g : Bool) {a : Stopped P} {b : Stopped Q} → AlikeStopped S a b
          → AlikeStopped S
          (cond g (record { taken = a.taken; left = end_taken r a.left.state a.left.state.collected }) a)
          (cond g (record { taken = b.taken; left = end_taken t b.left.state b.left.state.collected }) b)
      go true {a} {b} k =
          let e = k.left.state in
          record { taken = k.taken; left = rw e.state (end-swap a.left.state e.packet e.same a.left.state.collected) }
      go false k = k

  call-swap : (s : State P) (q : Q) (part : List ℕ) (last : Bool) → S s.packet q
      → AlikeStopped S (called r s part last) (called t (swap s q) part last)
  unfolding called
  call-swap s q part last h = go (is_going s.standing) (part-alike s (swap s q) part last alike)
    where
      alike : Alike S s (swap s q)
      alike = record { packet = q; state = refl; same = h }

      go : (g : Bool) → AlikeStopped S (part_taken r s part last) (part_taken t (swap s q) part last)
          → AlikeStopped S (cond g (part_taken r s part last) (record { taken = 0; left = record { out = []; state = s } }))
          (cond g (part_taken t (swap s q) part last) (record { taken = 0; left = record { out = []; state = swap s q } }))
      go true k = k
      go false k = record { taken = refl; left = record { out = refl; state = alike } }

  pub call-alike : (s : State P) (u : State Q) (part : List ℕ) (last : Bool) → Alike S s u
      → AlikeStopped S (called r s part last) (called t u part last)
  call-alike s u part last h = rw h.state (call-swap s h.packet part last h.same)
