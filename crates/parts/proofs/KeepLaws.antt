-- What every byte and the list's end keep, a call keeps; and it takes no more bytes than there are.
use Prim.Native.Nat.{ℕ, zero, suc, ◌≤◌, ◌<◌}
use mathlib.Core.Path.{◌≡◌, refl, sym, ◌∙◌}
use mathlib.Core.List.{List, [], ◌∷◌, ◌++◌}
use mathlib.Core.Bool.{Bool, true, false, ◌&&◌, cond}
use native.Mathlib.Omega.{arith}
use lib.Dec.{ltb}
use lib.ListN.{length}
use borrow.Author.Tests.{ltb-true}
use Rattle.packet.specs.Step.{Step}
use Rattle.packet.specs.Rules.{first}
use Rattle.cue.specs.Records.{record_step, record_refusals, most_records}
use Rattle.cue.proofs.ReadingLaws.{passing}
use Rattle.parts.specs.Taking.{Packing, State, Standing, going, ended, faulted, Taken, Stopped, decided_at, faulted_by, record_taken}
use Rattle.parts.specs.Taking.{byte_taken, is_going, goes_on, one_more, bytes_taken, end_taken, part_taken, called}
use Rattle.parts.proofs.FrontLaws.{decided_le}
use Rattle.parts.proofs.ByteLaws.{number-within}

module _ {P : Type 0} (r : Packing P) (I : State P → Type 0) (bytes : (s : State P) (b : ℕ) → I s → I (byte_taken r s b).state)
    (ends : (s : State P) (c : List ℕ) → I s → I (end_taken r s c).state) where
  bytes_keep : (t : Taken P) (bs : List ℕ) → I t.state → I (bytes_taken r t bs).left.state
  unfolding bytes_taken one_more
  bytes_keep t [] h = h
  bytes_keep t (b ∷ bs) h = go (goes_on t) (bytes_keep (byte_taken r t.state b) bs (bytes t.state b h))
    where
      go : (g : Bool) → I (bytes_taken r (byte_taken r t.state b) bs).left.state
          → I (cond g (one_more (bytes_taken r (byte_taken r t.state b) bs)) (record { taken = 0; left = t })).left.state
      go true k = k
      go false k = h

  pub call_keeps : (s : State P) (part : List ℕ) (last : Bool) → I s → I (called r s part last).left.state
  unfolding called part_taken
  call_keeps s part last h = go (is_going s.standing) (last && goes_on b.left)
    where
      b : Stopped P
      b = bytes_taken r (record { out = []; state = s }) part

      go : (g l : Bool)
          → I (cond g (cond l (record { taken = b.taken; left = end_taken r b.left.state b.left.state.collected }) b)
          (record { taken = 0; left = record { out = []; state = s } })).left.state
      go true true = ends _ _ (bytes_keep (record { out = []; state = s }) part h)
      go true false = bytes_keep (record { out = []; state = s }) part h
      go false l = h

-- a call takes at most the part's bytes
bytes_le : {P : Type 0} (r : Packing P) (t : Taken P) (bs : List ℕ) → (bytes_taken r t bs).taken ≤ length bs
unfolding bytes_taken one_more
bytes_le r t [] = omega arith
bytes_le r t (b ∷ bs) = go (goes_on t) (bytes_le r (byte_taken r t.state b) bs)
  where
    go : (g : Bool) → (bytes_taken r (byte_taken r t.state b) bs).taken ≤ length bs
        → (cond g (one_more (bytes_taken r (byte_taken r t.state b) bs)) (record { taken = 0; left = t })).taken ≤ suc (length bs)
    go true k = omega arith
    go false k = omega arith

pub call_le : {P : Type 0} (r : Packing P) (s : State P) (part : List ℕ) (last : Bool) → (called r s part last).taken ≤ length part
unfolding called part_taken
call_le {P} r s part last = go (is_going s.standing) (last && goes_on b.left)
  where
    b : Stopped P
    b = bytes_taken r (record { out = []; state = s }) part

    go : (g l : Bool)
        → (cond g (cond l (record { taken = b.taken; left = end_taken r b.left.state b.left.state.collected }) b)
        (record { taken = 0; left = record { out = []; state = s } })).taken
        ≤ length part
    go true true = bytes_le r (record { out = []; state = s }) part
    go true false = bytes_le r (record { out = []; state = s }) part
    go false l = omega arith

-- the numbers of a fault
abbrev pub Known : Standing → Type 0
Known going = Unit
Known ended = Unit
Known (faulted n) = (20 < n) × (n ≤ 24)

-- a state whose numbers are in range
pub record InRange {P : Type 0} (s : State P) : Type 0 where
  pub few : s.index ≤ most_records
  pub short : length s.collected ≤ 9
  pub known : Known s.standing

module _ {P : Type 0} (r : Packing P) where
  record_range : (s : State P) (rest : List ℕ) (n : ℕ) → first (record_refusals s.index rest) ≡ n → InRange s
      → InRange (record_taken r n s (record_step rest)).state
  unfolding record_taken faulted_by
  record_range s rest zero e h =
      let w = passing s.index rest e in
      record { few = omega (arith, h.few, w.few); short = omega arith; known = tt }
  record_range s rest (suc n) e h =
      record { few = h.few; short = omega arith; known = number-within s.index (suc n) rest (sym e) (λ z. omega arith) }

  byte-range : (s : State P) (b : ℕ) → InRange s → InRange (byte_taken r s b).state
  unfolding byte_taken
  byte-range s b h = go (ltb (length rest) (decided_at s.index rest)) refl
    where
      rest : List ℕ
      rest = s.collected ++ (b ∷ [])

      go : (l : Bool) → ltb (length rest) (decided_at s.index rest) ≡ l
          → InRange (cond l
          (record { out = []; state = record { standing = s.standing; index = s.index; collected = rest; packet = s.packet } })
          (record_taken r (first (record_refusals s.index rest)) s (record_step rest))).state
      go true l =
          record { few = h.few; short = omega (arith, ltb-true (length rest) _ l, decided_le s.index rest); known = h.known }
      go false l = record_range s rest _ refl h

  end-range : (s : State P) (c : List ℕ) → InRange s → InRange (end_taken r s c).state
  unfolding end_taken faulted_by
  end-range s [] h = record { few = h.few; short = omega arith; known = tt }
  end-range s (b ∷ bs) h = record { few = h.few; short = omega arith; known = omega arith }

  pub call-range : (s : State P) (part : List ℕ) (last : Bool) → InRange s → InRange (called r s part last).left.state
  call-range = call_keeps r InRange byte-range end-range

-- where a fault shows, nothing is handed out
abbrev pub Quiet : {P : Type 0} → Taken P → Type 0
Quiet t = (n : ℕ) → t.state.standing ≡ faulted n → t.out ≡ []

module _ {P : Type 0} (r : Packing P) where
  record_quiet : (s : State P) (x : Step) (n : ℕ) → Quiet (record_taken r n s x)
  unfolding record_taken
  record_quiet s x zero n e = let z : ◌≡◌ {A = ℕ} 0 1 = cc in absurd (omega arith)
  record_quiet s x (suc k) n e = refl

  byte-quiet : (s : State P) (b : ℕ) → Quiet (byte_taken r s b)
  unfolding byte_taken
  byte-quiet s b = go (ltb (length rest) (decided_at s.index rest))
    where
      rest : List ℕ
      rest = s.collected ++ (b ∷ [])

      go : (l : Bool)
          → Quiet (cond l
          (record { out = []; state = record { standing = s.standing; index = s.index; collected = rest; packet = s.packet } })
          (record_taken r (first (record_refusals s.index rest)) s (record_step rest)))
      go true = λ n e. refl
      go false = record_quiet s (record_step rest) (first (record_refusals s.index rest))

  bytes-quiet : (t : Taken P) (bs : List ℕ) → Quiet t → Quiet (bytes_taken r t bs).left
  unfolding bytes_taken one_more
  bytes-quiet t [] h = h
  bytes-quiet t (b ∷ bs) h = go (goes_on t) (bytes-quiet (byte_taken r t.state b) bs (byte-quiet t.state b))
    where
      go : (g : Bool) → Quiet (bytes_taken r (byte_taken r t.state b) bs).left
          → Quiet (cond g (one_more (bytes_taken r (byte_taken r t.state b) bs)) (record { taken = 0; left = t })).left
      go true k = k
      go false k = h

  end_quiet : (s : State P) (c : List ℕ) → Quiet (end_taken r s c)
  unfolding end_taken
  end_quiet s [] n e = let z : ◌≡◌ {A = ℕ} 0 1 = cc in absurd (omega arith)
  end_quiet s (b ∷ bs) n e = refl

  end-stops : (s : State P) (c : List ℕ) → (end_taken r s c).state.standing ≡ going → ⊥
  unfolding end_taken faulted_by
  end-stops s [] e = let z : ◌≡◌ {A = ℕ} 0 1 = cc in absurd (omega arith)
  end-stops s (b ∷ bs) e = let z : ◌≡◌ {A = ℕ} 0 1 = cc in absurd (omega arith)

  not_going : is_going going ≡ false → ⊥
  unfolding is_going
  not_going e = let w : ◌≡◌ {A = ℕ} 0 1 = cc in omega arith

  going_true : (t : Taken P) → t.state.standing ≡ going → length t.out ≡ 0 → goes_on t ≡ true
  unfolding goes_on is_going
  going_true t e z = rw (e, z) refl

  module _ (s : State P) (part : List ℕ) where
    b : Stopped P
    b = bytes_taken r (record { out = []; state = s }) part

    pub call-quiet : (last : Bool) → Quiet (called r s part last).left
    unfolding called part_taken b
    call-quiet last = go (is_going s.standing) (last && goes_on b.left)
      where
        go : (g l : Bool)
            → Quiet (cond g (cond l (record { taken = b.taken; left = end_taken r b.left.state b.left.state.collected }) b)
            (record { taken = 0; left = record { out = []; state = s } })).left
        go true true = end_quiet b.left.state b.left.state.collected
        go true false = bytes-quiet (record { out = []; state = s }) part (λ n e. refl)
        go false l = λ n e. refl

    -- where the end is said, the call stops at a packet or a fault, or the list has ended
    pub said-end : (called r s part true).left.state.standing ≡ going → length (called r s part true).left.out ≡ 0 → ⊥
    unfolding called part_taken b
    said-end = go (is_going s.standing) (goes_on b.left) refl refl
      where
        go : (g l : Bool) → is_going s.standing ≡ g → goes_on b.left ≡ l
            → let q = cond g (cond l (record { taken = b.taken; left = end_taken r b.left.state b.left.state.collected }) b)
            (record { taken = 0; left = record { out = []; state = s } }) in
            q.left.state.standing ≡ going → length q.left.out ≡ 0 → ⊥
        go true true g l e z = end-stops b.left.state b.left.state.collected e
        go true false g l e z = let y = sym l ∙ going_true b.left e z in let w : ◌≡◌ {A = ℕ} 0 1 = cc in omega arith
        go false l g m e z =
            let y : is_going going ≡ false = rw e at g in
            not_going y
