-- Elements of a command or a burst: whether one of them writes a protected byte, by one look at each range.
use Prim.Native.Nat.{ℕ, zero, suc, ◌+◌, ◌*◌}
use mathlib.Core.Path.{◌≡◌, refl, sym, ap, ◌∙◌}
use mathlib.Core.List.{List, ◌++◌}
use mathlib.Core.Bool.{Bool, true, false, not, ◌||◌, ◌&&◌, cond}
use native.Mathlib.Omega.{arith}
use native.Mathlib.Nat.{suc-mul, zero-mul, add-zero}
use lib.Dec.{eqb, eqb-suc-zero}
use lib.ListN.{drop}
use Rattle.lbp16.specs.Space.{Space, space_of, row, area_row}
use Rattle.lbp16.specs.declared.word.Fields.{Fields}
use Rattle.lbp16.specs.declared.pointer.Pointers.{Pointers}
use borrow.Author.Tests.{not-false}
use Rattle.lbp16.proofs.BoolLaws.{or_false}
use Rattle.packet.specs.Step.{Kind, read, write, infoRead, Step, is_info, is_write, row_by, at, carried}
use Rattle.packet.specs.Rules.{any_step}
use Rattle.packet.specs.Command.{kind_of, row_of, address_used, stride, elements, steps_at, handed}
use Rattle.packet.proofs.ElementLaws.{write-kind}
use Rattle.tight.proofs.AcceptedLaws.{any_joined}
use Rattle.interlock.specs.Guard.{touches, writes_protected, protected}
use Rattle.interlock.proofs.RangeLaws.{touches-parts}

or_none : (b : Bool) → (b || false) ≡ b
or_none true = refl
or_none false = refl

or_same : (b : Bool) → (b || b) ≡ b
or_same true = refl
or_same false = refl

-- steps in two parts
pub protected-joined : (guard : List ℕ) (ss ts : List Step) → protected guard (ss ++ ts) ≡ (protected guard ss || protected guard ts)
unfolding protected
protected-joined guard ss ts = any_joined (writes_protected guard) ss ts

-- Elements that are not written protect nothing.
pub read-elements : (guard : List ℕ) (k : Kind) (s : Space) (n a d : ℕ) (bs : List ℕ) → is_write k ≡ false
    → protected guard (elements k s n a d bs) ≡ false
unfolding protected any_step elements writes_protected
read-elements guard k s zero a d bs e = refl
read-elements guard k s (suc n) a d bs e = rw e (read-elements guard k s n (a + d) d _ e)

module _ (guard : List ℕ) (s : Space) where
  -- Elements one behind the other are one block,
  rising : (n a : ℕ) (bs : List ℕ)
      → protected guard (elements write s (suc n) a (row s).element bs) ≡ touches guard ((row s).place + a) (suc n * (row s).element)
  unfolding protected any_step elements writes_protected at row_by is_info area_row is_write
  rising zero a bs = or_none _ ∙ ap (touches guard ((row s).place + a)) (rw (suc-mul, zero-mul) (omega arith))
  rising (suc n) a bs =
      let w = (row s).element in
      let place : (row s).place + (a + w) ≡ (row s).place + a + w = omega arith in
      let width : suc (suc n) * w ≡ w + suc n * w = rw suc-mul (omega arith) in
      ap (λ (t : Bool). touches guard ((row s).place + a) w || t) (rising n (a + w) (drop (carried write s) bs))
      ∙ ap (λ (x : ℕ). touches guard ((row s).place + a) w || touches guard x (suc n * w)) place
      ∙ sym (touches-parts guard ((row s).place + a) w (suc n * w))
      ∙ ap (touches guard ((row s).place + a)) (sym width)

  -- and those at one place are one element.
  still : (n a : ℕ) (bs : List ℕ)
      → protected guard (elements write s (suc n) a 0 bs) ≡ touches guard ((row s).place + a) (row s).element
  unfolding protected any_step elements writes_protected at row_by is_info area_row is_write
  still zero a bs = or_none _
  still (suc n) a bs =
      let w = (row s).element in
      ap (λ (t : Bool). touches guard ((row s).place + a) w || t) (still n (a + 0) (drop (carried write s) bs))
      ∙ ap (λ (x : ℕ). touches guard ((row s).place + a) w || touches guard ((row s).place + x) w) (add-zero a)
      ∙ or_same _

  -- with increment or without
  pub block : (n a : ℕ) (i : Bool) (bs : List ℕ)
      → protected guard (elements write s n a (cond i (row s).element 0) bs)
      ≡ (not (eqb n 0) && touches guard ((row s).place + a) (cond i (n * (row s).element) (row s).element))
  unfolding protected any_step elements
  block zero a i bs = refl
  block (suc n) a true bs = rw (eqb-suc-zero n) (rising n a bs)
  block (suc n) a false bs = rw (eqb-suc-zero n) (still n a bs)

-- One look for all elements of a command, as the code takes it.
module _ (guard : List ℕ) (f : Fields) (p : Pointers) (rest : List ℕ) where
  pub command-none : (not f.write || eqb f.count 0) ≡ true → false ≡ protected guard (steps_at p f rest)
  unfolding steps_at protected any_step elements
  command-none e = go f.write refl f.count e
    where
      go : (w : Bool) → f.write ≡ w → (n : ℕ) → (not w || eqb n 0) ≡ true
          → false ≡ protected guard (elements (kind_of f) (space_of f.space) n (address_used p f rest) (stride f) (handed p f rest))
      go false q n e = sym (read-elements guard (kind_of f) _ n _ _ _ (write-kind f ∙ q))
      go true q zero e = refl
      go true q (suc n) e =
          let h : true ≡ false = sym e ∙ eqb-suc-zero n in
          let z : ◌≡◌ {A = ℕ} 0 1 = cc in
          absurd (omega arith)

  pub command-block : (not f.write || eqb f.count 0) ≡ false → (b : Bool)
      → b ≡ touches guard ((row_of f).place + address_used p f rest) (cond f.increment (f.count * (row_of f).element) (row_of f).element)
      → b ≡ protected guard (steps_at p f rest)
  unfolding steps_at row_of row_by stride is_info is_write area_row
  command-block e b h =
      let (written, some) = or_false (not f.write) _ e in
      go (kind_of f) (write-kind f ∙ not-false _ written) some h
    where
      s : Space
      s = space_of f.space

      go : (k : Kind) → is_write k ≡ true → eqb f.count 0 ≡ false
          → b
          ≡ touches guard ((row_by k s).place + address_used p f rest)
          (cond f.increment (f.count * (row_by k s).element) (row_by k s).element)
          → b
          ≡ protected guard
          (elements k s f.count (address_used p f rest) (cond f.increment (row_by k s).element 0) (handed p f rest))
      go read w some h = let z : ◌≡◌ {A = ℕ} 0 1 = cc in absurd (omega arith)
      go write w some h =
          h ∙ sym (block guard s f.count (address_used p f rest) f.increment (handed p f rest) ∙ rw some refl)
      go infoRead w some h = let z : ◌≡◌ {A = ℕ} 0 1 = cc in absurd (omega arith)
