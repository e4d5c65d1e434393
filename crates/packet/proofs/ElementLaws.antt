-- A command's elements: how many bytes they have, and rules 8 and 9 without a walk over them.
use Prim.Native.Nat.{ℕ, zero, suc, ◌+◌, ◌*◌, ◌≤◌, ◌<◌}
use mathlib.Core.Path.{◌≡◌, refl, ap, sym, ◌∙◌}
use mathlib.Core.List.{List, [], ◌∷◌}
use mathlib.Core.Bool.{Bool, true, false, not, ◌||◌, ◌&&◌, cond, or-false}
use native.Mathlib.Omega.{arith}
use native.Mathlib.Nat.{suc-mul, zero-mul, mul-zero, mul-le-mul}
use lib.Dec.{eqb, ltb, eqb-suc-zero}
use borrow.Author.Tests.{ltb-true, lt-ltb}
use Rattle.lbp16.specs.Space.{Space, space_of}
use Rattle.lbp16.specs.Word.{bit}
use Rattle.lbp16.specs.Answer.{Answer, rule_number}
use Rattle.lbp16.specs.declared.Rule.{Rule}
use Rattle.lbp16.proofs.RuleLaws.{rule_number_range}
use Rattle.lbp16.specs.declared.word.Fields.{Fields}
use Rattle.lbp16.specs.declared.pointer.Pointers.{Pointers}
use Rattle.packet.specs.Step.{Kind, read, write, infoRead, is_info, is_write, row_by, carried, answered}
use Rattle.lbp16.proofs.SpaceLaws.{area_bytes_le, area_element_le}
use Rattle.packet.proofs.StepLaws.{carried_row, carried_none, answered-row}
use Rattle.packet.specs.Rules.{past_end, barred, any_step}
use Rattle.packet.specs.declared.command.Which.{Which}
use Rattle.packet.specs.declared.command.Which.TheVariants.{Read, Write, Refused}
use Rattle.packet.specs.Command.{elements, kind_of, row_of, which_of, which_listed, steps_at, address_used, stride, handed}

pub scaled_le : (n w : ℕ) → n < 256 → w ≤ 4 → n * w ≤ 1020
scaled_le n w h k = mul-le-mul (let l : n ≤ 255 = omega arith in l) k

pub write-kind : (f : Fields) → is_write (kind_of f) ≡ f.write
unfolding is_write kind_of
write-kind f = go f.write f.info
  where
    go : (w i : Bool) → is_write (cond w write (cond i infoRead read)) ≡ w
    go true i = refl
    go false true = refl
    go false false = refl

-- an info read: the info bit is set, and it is no write
pub info-kind : (f : Fields) → is_info (kind_of f) ≡ (f.info && not f.write)
unfolding is_info kind_of
info-kind f = go f.write f.info
  where
    go : (w i : Bool) → is_info (cond w write (cond i infoRead read)) ≡ (i && not w)
    go true true = refl
    go true false = refl
    go false true = refl
    go false false = refl

-- an element of the command has at most 4 bytes
pub row_le : (f : Fields) → (row_of f).element ≤ 4
unfolding row_of row_by
row_le f = area_element_le _ _

pub row-bytes_le : (f : Fields) → (row_of f).bytes ≤ 65536
unfolding row_of row_by
row-bytes_le f = area_bytes_le _ _

-- an element's bytes stand in a write's command, and in the reply of any other
pub carried-write : (f : Fields) → f.write ≡ true → carried (kind_of f) (space_of f.space) ≡ (row_of f).element
unfolding row_of
carried-write f e = carried_row _ _ (write-kind f ∙ e)

pub carried-read : (f : Fields) → f.write ≡ false → carried (kind_of f) (space_of f.space) ≡ 0
carried-read f e = carried_none _ _ (write-kind f ∙ e)

pub answered-read : (f : Fields) → f.write ≡ false → answered (kind_of f) (space_of f.space) ≡ (row_of f).element
unfolding row_of
answered-read f e = answered-row _ _ (write-kind f ∙ e)

pub answered-write : (f : Fields) → f.write ≡ true → answered (kind_of f) (space_of f.space) ≡ 0
unfolding answered kind_of
answered-write f e = rw e refl

-- a test that a larger number passes too
or_ltb : (b x y : ℕ) → x ≤ y → (ltb b x || ltb b y) ≡ ltb b y
or_ltb b x y h = go (ltb b x) refl
  where
    go : (t : Bool) → ltb b x ≡ t → (t || ltb b y) ≡ ltb b y
    go true e = sym (lt-ltb b y (let l : b < x = ltb-true b x e in omega arith))
    go false e = refl

lower : (a b n : ℕ) → a ≤ b → ltb b n ≡ true → ltb a n ≡ true
lower a b n h e = lt-ltb a n (let l : b < n = ltb-true b n e in omega arith)

-- Of elements that rise, the last is the furthest.
pub past-last : (k : Kind) (s : Space) (n a d : ℕ) (bs : List ℕ)
    → any_step past_end (elements k s (suc n) a d bs) ≡ ltb (row_by k s).bytes (a + n * d + (row_by k s).element)
unfolding any_step past_end elements
past-last k s zero a d bs = or-false _ ∙ ap (ltb (row_by k s).bytes) (rw zero-mul (omega arith))
past-last k s (suc n) a d bs =
    ap (λ (t : Bool). ltb (row_by k s).bytes (a + (row_by k s).element) || t) (past-last k s n (a + d) d _)
    ∙ or_ltb (row_by k s).bytes (a + (row_by k s).element) (a + d + n * d + (row_by k s).element) (omega arith)
    ∙ ap (ltb (row_by k s).bytes) (rw suc-mul (omega arith))

-- and the first is the lowest
pub barred-first : (k : Kind) (s : Space) (n a d : ℕ) (bs : List ℕ)
    → any_step barred (elements k s (suc n) a d bs) ≡ (ltb a (row_by k s).read_only && is_write k)
unfolding any_step barred elements
barred-first k s zero a d bs = or-false _
barred-first k s (suc n) a d bs =
    ap (λ (t : Bool). (ltb a (row_by k s).read_only && is_write k) || t) (barred-first k s n (a + d) d _)
    ∙ go (ltb a (row_by k s).read_only) (ltb (a + d) (row_by k s).read_only) (is_write k) (lower a (a + d) _ (omega arith))
  where
    go : (t u w : Bool) → (u ≡ true → t ≡ true) → ((t && w) || (u && w)) ≡ (t && w)
    go true u true e = refl
    go true true false e = refl
    go true false false e = refl
    go false true w e = let z : ◌≡◌ {A = ℕ} 0 1 = cc (e refl) in absurd (omega arith)
    go false false w e = refl

-- Rules 8 and 35 without a walk: with increment or without, the furthest element against the space's end.
pub past-span : (k : Kind) (s : Space) (n a : ℕ) (i : Bool) (bs : List ℕ)
    → any_step past_end (elements k s n a (cond i (row_by k s).element 0) bs)
    ≡ (not (eqb n 0) && ltb (row_by k s).bytes (a + cond i (n * (row_by k s).element) (row_by k s).element))
unfolding any_step elements
past-span k s zero a i bs = refl
past-span k s (suc n) a true bs =
    past-last k s n a _ bs ∙ rw (eqb-suc-zero n) (ap (ltb (row_by k s).bytes) (rw suc-mul (omega arith)))
past-span k s (suc n) a false bs =
    past-last k s n a 0 bs ∙ rw (eqb-suc-zero n) (ap (ltb (row_by k s).bytes) (rw mul-zero (omega arith)))

-- Rules 8 and 9 as the code tests them.
pub past_quick : (p : Pointers) (f : Fields) (rest : List ℕ)
    → any_step past_end (steps_at p f rest)
    ≡ (not (eqb f.count 0)
    && ltb (row_of f).bytes
    (address_used p f rest
    + cond f.increment (f.count * (row_of f).element) (row_of f).element))
unfolding steps_at stride row_of
past_quick p f rest = past-span _ _ _ _ f.increment _

pub barred_quick : (p : Pointers) (f : Fields) (rest : List ℕ)
    → any_step barred (steps_at p f rest)
    ≡ (not (eqb f.count 0) && (ltb (address_used p f rest) (row_of f).read_only && f.write))
unfolding steps_at any_step elements row_of
barred_quick p f rest = go f.count
  where
    go : (n : ℕ)
        → any_step barred (elements (kind_of f) (space_of f.space) n (address_used p f rest) (stride f) (handed p f rest))
        ≡ (not (eqb n 0) && (ltb (address_used p f rest) (row_of f).read_only && f.write))
    go zero = refl
    go (suc n) = barred-first _ _ n _ _ _ ∙ rw (eqb-suc-zero n, write-kind f) refl

-- which of read, write or refusal, as the code lists it
pub which-refused : (r : Rule) (place : ℕ) (k : Kind) → which_listed (Refused r) place ≡ which_of (rule_number r) place k
unfolding which_listed which_of
which-refused r place k = some (rule_number r) (rule_number_range r).0
  where
    some : (n : ℕ) → 1 ≤ n → Answer.refused n place ≡ which_of n place k
    some zero h = absurd (omega arith)
    some (suc n) h = refl

-- where no rule holds it is found to be what its write bit says
pub which-write : (f : Fields) (place : ℕ) → f.write ≡ true → which_listed Write place ≡ which_of 0 place (kind_of f)
unfolding which_listed which_of bit
which-write f place e = rw (write-kind f, e) refl

pub which-read : (f : Fields) (place : ℕ) → f.write ≡ false → which_listed Read place ≡ which_of 0 place (kind_of f)
unfolding which_listed which_of bit
which-read f place e = rw (write-kind f, e) refl

-- and a read or a write is no refusal
pub which-passed : (b m place : ℕ) (k : Kind) → Answer.accepted (b ∷ []) ≡ which_of m place k → (m ≡ 0) × (b ≡ bit (is_write k))
unfolding which_of
which-passed b zero place k e = (refl, cc)
which-passed b (suc m) place k e = let z : ◌≡◌ {A = ℕ} 0 1 = cc in absurd (omega arith)

bit-set : (w : Bool) → 1 ≡ bit w → w ≡ true
unfolding bit
bit-set true e = refl
bit-set false e = absurd (omega arith)

pub bit-clear : (w : Bool) → 0 ≡ bit w → w ≡ false
unfolding bit
bit-clear true e = absurd (omega arith)
bit-clear false e = refl

-- A command that no rule refuses, by what its fields say.
module _ (f : Fields) (w : Which) (e : (place : ℕ) → which_listed w place ≡ which_of 0 place (kind_of f)) where
  pub is_read : w ≡ Read → f.write ≡ false
  unfolding which_listed
  is_read h = bit-clear _ ((which-passed _ _ _ _ (rw h at (e 0))).1 ∙ ap bit (write-kind f))

  pub is-write : w ≡ Write → f.write ≡ true
  unfolding which_listed
  is-write h = bit-set _ ((which-passed _ _ _ _ (rw h at (e 0))).1 ∙ ap bit (write-kind f))

  pub never-refused : (r : Rule) → w ≡ Refused r → ⊥
  unfolding which_listed which_of
  never-refused r h = let q = rw h at (e 0) in let z : ◌≡◌ {A = ℕ} 0 1 = cc in omega arith
