-- Laws of a record as the code reads it.
use Prim.Native.Nat.{ℕ, ◌+◌, ◌%◌, ◌≤◌, ◌<◌}
use mathlib.Core.Path.{◌≡◌, refl, sym, ap}
use mathlib.Core.List.{List, [], ◌∷◌}
use mathlib.Core.Bool.{Bool, true, false, not, ◌||◌, ◌&&◌, cond, and-false}
use native.Mathlib.Omega.{arith}
use lib.Dec.{eqb, ltb}
use lib.ListN.{length, take, drop, get_or, drop_of_length-le, length-take}
use lib.Seq.{drop-drop}
use borrow.Author.Tests.{eqb-false, eq-eqb, ne_eqb, lt-ltb, le-ltb}
use Rattle.lbp16.specs.Space.{space_of, space_number, is_absent, row}
use Rattle.lbp16.proofs.BoolLaws.{or_false}
use Rattle.lbp16.proofs.CaseLaws.{space-cases}
use Rattle.packet.specs.Bytes.{number}
use Rattle.packet.specs.Step.{is_info, carried, is_write}
use Rattle.packet.specs.Rules.{first, misaligned, past_end, barred}
use Rattle.packet.specs.Command.{pick_kind}
use Rattle.packet.proofs.StepLaws.{pick-plain, row_plain}
use Rattle.packet.proofs.RuleLaws.{none-holds}
use Rattle.packet.proofs.UnlockLaws.{status-number}
use Rattle.std.specs.Prelude.{Result, Ok, Err}
use Rattle.lbp16.specs.Answer.{ruled}
use Rattle.lbp16.specs.declared.Rule.{Rule}
use Rattle.cue.specs.Records.{record_step, record_space, record_kind, record_bytes, record_refusals, reserved, bad_element, upper_half}
use Rattle.cue.specs.Records.{mark_at, read_mark, write_mark, bytes_of_value, most_records, record_at, brief}
use Rattle.cue.proofs.RecordLaws.{whole, step-bytes}

-- a space that the card has is named by its number
number_of : (n : ℕ) → is_absent (space_of n) ≡ false → space_number (space_of n) ≡ n
unfolding is_absent space_number
number_of n =
    space-cases n (λ m s. is_absent s ≡ false → space_number s ≡ m) (λ h. refl) (λ h. refl) (λ h. refl) (λ h. refl)
    (λ a b c d h. let z : ◌≡◌ {A = ℕ} 0 1 = cc in absurd (omega arith))

pub write-of : (b : Bool) → is_write (pick_kind b) ≡ b
unfolding is_write
write-of true = refl
write-of false = refl

-- refusal 23 as the code tests it
pub bad-element_is : (rest : List ℕ)
    → bad_element (record_step rest)
    ≡ (let r = record_at rest in
    let s = row (space_of r.space) in
    is_absent (space_of r.space) || not (eqb (r.address % s.element) 0) || ltb s.bytes (r.address + s.element)
    || (ltb r.address s.read_only && r.write)
    || ((eqb r.address 0x1A || eqb r.address 0x0A) && eqb r.space 6))
unfolding bad_element record_step record_space record_kind record_at misaligned past_end barred reserved
bad-element_is rest = rw (row_plain _ _ (pick-plain (eqb (mark_at rest) write_mark)), write-of, status-number) refl

-- the part of the value that an element has no room for
middle : (l : List ℕ) → drop 2 (take 4 l) ≡ take 2 (drop 2 l)
middle [] = refl
middle (a ∷ []) = refl
middle (a ∷ b ∷ l) = refl

upper-at : (rest : List ℕ) → drop 2 (take 4 (drop 6 rest)) ≡ take 2 (drop 8 rest)
upper-at rest = rw (middle, drop-drop) refl

pub too_wide-is : (rest : List ℕ) → is_absent (record_space rest) ≡ false
    → (not (eqb (get_or rest 2 0) 0) && not (eqb (number (take 2 (drop 8 rest))) 0)) ≡ not (eqb (upper_half rest) 0)
unfolding is_absent record_space upper_half bytes_of_value row number
too_wide-is rest =
    let four : drop 4 (take 4 (drop 6 rest)) ≡ [] =
    (let h : length (take 4 (drop 6 rest)) ≤ 4 = rw length-take (omega arith) in drop_of_length-le (take 4 (drop 6 rest)) h) in
    space-cases (get_or rest 2 0)
    (λ m s. is_absent s ≡ false
    → (not (eqb m 0) && not (eqb (number (take 2 (drop 8 rest))) 0))
    ≡ not (eqb (number (drop (row s).element (take 4 (drop 6 rest)))) 0))
    (λ h. rw four refl)
    (λ h. rw upper-at refl)
    (λ h. rw upper-at refl)
    (λ h. rw upper-at refl)
    (λ a b c d h. let z : ◌≡◌ {A = ℕ} 0 1 = cc in absurd (omega arith))

present : (rest : List ℕ) → bad_element (record_step rest) ≡ false → is_absent (record_space rest) ≡ false
unfolding bad_element record_step
present rest e =
    let x = record_step rest in
    let a = is_absent x.space in
    let b = misaligned (row x.space) x.address in
    (or_false a b (or_false (a || b) (past_end x) (or_false (a || b || past_end x) (barred x) (or_false _ (reserved x) e).0).0).0).0

-- rule 22 as the code tests it
abbrev cut : List ℕ → Bool
cut rest =
    (not (eqb (mark_at rest) read_mark) && not (eqb (mark_at rest) write_mark))
    || ltb (length rest) (record_bytes (pick_kind (eqb (mark_at rest) write_mark)))

-- The chain of tests, where that of rule 24 is the definition's wherever rule 23 does not hold.
pub chain_is : (index : ℕ) (rest : List ℕ) (w : Bool) → (is_absent (record_space rest) ≡ false → w ≡ not (eqb (upper_half rest) 0))
    → first (record_refusals index rest)
    ≡ cond (eqb index most_records) 21
    (cond (cut rest) 22
    (cond (bad_element (record_step rest)) 23
    (cond (not (eqb (get_or rest 3 0) 0) || (eqb (mark_at rest) write_mark && w)) 24 0)))
unfolding record_refusals first record_kind
chain_is index rest w h =
    rw (write-of)
    (ap (λ (n : ℕ). cond (eqb index most_records) 21 (cond (cut rest) 22 n)) (go (bad_element (record_step rest)) refl))
  where
    test : Bool → ℕ
    test u = cond (not (eqb (get_or rest 3 0) 0) || (eqb (mark_at rest) write_mark && u)) 24 0

    go : (b : Bool) → bad_element (record_step rest) ≡ b
        → cond b 23 (test (not (eqb (upper_half rest) 0))) ≡ cond b 23 (test w)
    go true e = refl
    go false e = ap test (sym (h (present rest e)))

-- the chain, test by test
pub is_cut : (rest : List ℕ) → length rest < 6 → cut rest ≡ true
unfolding record_bytes is_write
is_cut rest h = short (eqb (mark_at rest) write_mark) (not (eqb (mark_at rest) read_mark) && not (eqb (mark_at rest) write_mark))
  where
    short : (v b : Bool) → (b || ltb (length rest) (record_bytes (pick_kind v))) ≡ true
    short v true = refl
    short true false = lt-ltb (length rest) 10 (omega arith)
    short false false = lt-ltb (length rest) 6 h

module _ (index : ℕ) (rest : List ℕ) where
  pub refused_21 : index ≡ most_records → 21 ≡ first (record_refusals index rest)
  refused_21 e = rw (chain_is index rest (not (eqb (upper_half rest) 0)) (λ h. refl), eq-eqb index most_records e) refl

  pub refused_22 : (index ≡ most_records → ⊥) → cut rest ≡ true → 22 ≡ first (record_refusals index rest)
  refused_22 n e =
      rw (chain_is index rest (not (eqb (upper_half rest) 0)) (λ h. refl), ne_eqb index most_records n, e) refl

  pub refused-later : (w : Bool) → (is_absent (record_space rest) ≡ false → w ≡ not (eqb (upper_half rest) 0))
      → (index ≡ most_records → ⊥) → cut rest ≡ false
      → cond (bad_element (record_step rest)) 23
      (cond (not (eqb (get_or rest 3 0) 0) || (eqb (mark_at rest) write_mark && w)) 24 0)
      ≡ first (record_refusals index rest)
  refused-later w h n e = rw (chain_is index rest w h, ne_eqb index most_records n, e) refl

-- A whole record of a register that stands where an element may: only 21 can refuse it.
pub register-good : (rest : List ℕ) → 10 ≤ length rest → (eqb (mark_at rest) read_mark || eqb (mark_at rest) write_mark) ≡ true
    → get_or rest 2 0 ≡ 0 → get_or rest 3 0 ≡ 0 → number (take 2 (drop 4 rest)) % 4 ≡ 0 → number (take 2 (drop 4 rest)) < 65536
    → (index : ℕ) → eqb index most_records ≡ false → first (record_refusals index rest) ≡ 0
unfolding record_bytes is_write record_at is_absent space_of row
register-good rest l m s z a b index i =
    rw (
      chain_is index rest w (too_wide-is rest),
      i,
      known (eqb (mark_at rest) read_mark) (eqb (mark_at rest) write_mark) m,
      z,
      narrow (eqb (mark_at rest) write_mark),
      good,
    )
    refl
  where
    w : Bool
    w = not (eqb (get_or rest 2 0) 0) && not (eqb (number (take 2 (drop 8 rest))) 0)

    enough : (v : Bool) → ltb (length rest) (record_bytes (pick_kind v)) ≡ false
    enough true = le-ltb (length rest) 10 l
    enough false = le-ltb (length rest) 6 (omega arith)

    known : (x y : Bool) → (x || y) ≡ true → ((not x && not y) || ltb (length rest) (record_bytes (pick_kind y))) ≡ false
    known true y e = enough y
    known false true e = enough true
    known false false e = sym e

    narrow : (v : Bool) → (v && w) ≡ false
    narrow true = rw s refl
    narrow false = refl

    good : bad_element (record_step rest) ≡ false
    good =
        let n = number (take 2 (drop 4 rest)) in
        rw (bad-element_is rest, s, a, le-ltb 65536 (n + 4) (omega arith), le-ltb n 0 (omega arith))
        (and-false (eqb n 0x1A || eqb n 0x0A))

-- A record that no rule refuses: it is whole, and is what the code reads.
pub record Passing (index : ℕ) (rest : List ℕ) : Type 0 where
  pub few : index ≡ most_records → ⊥
  pub bytes : record_bytes (record_step rest).kind ≤ length rest
  pub good : bad_element (record_step rest) ≡ false
  pub plain : is_info (record_step rest).kind ≡ false
  pub wide : length (record_step rest).bytes ≡ carried (record_step rest).kind (record_step rest).space
  pub read : record_at rest ≡ brief (record_step rest)

pub passing : (index : ℕ) (rest : List ℕ) → first (record_refusals index rest) ≡ 0 → Passing index rest
unfolding record_at brief record_step record_refusals record_kind record_space
passing index rest e =
    let w = whole index rest e in
    let n = none-holds (record_refusals index rest) (omega arith) e in
    record {
      few = eqb-false _ _ n.0;
      bytes = w.bytes;
      good = w.good;
      plain = pick-plain (eqb (mark_at rest) write_mark);
      wide = step-bytes rest _ _ w.bytes;
      read = rw (write-of, number_of (get_or rest 2 0) (present rest w.good)) refl;
    }

-- a record shows in its first 6 bytes, and a good one has them
pub record_front : (rest : List ℕ) → record_at (take 6 rest) ≡ record_at rest
unfolding record_at mark_at
record_front [] = refl
record_front (a ∷ []) = refl
record_front (a ∷ b ∷ []) = refl
record_front (a ∷ b ∷ c ∷ []) = refl
record_front (a ∷ b ∷ c ∷ d ∷ []) = refl
record_front (a ∷ b ∷ c ∷ d ∷ e ∷ []) = refl
record_front (a ∷ b ∷ c ∷ d ∷ e ∷ f ∷ l) = refl

pub front-there : (index : ℕ) (rest : List ℕ) → first (record_refusals index rest) ≡ 0 → 6 ≤ length rest
unfolding record_bytes
front-there index rest e = go (is_write (record_step rest).kind) (passing index rest e).bytes
  where
    go : (b : Bool) → cond b 10 6 ≤ length rest → 6 ≤ length rest
    go true h = omega arith
    go false h = h

-- what refuses a record is a rule
pub none-refuses : (r : Result (Unit {0}) Rule) → ((rule : Rule) → r ≡ Err rule → ⊥) → ruled r ≡ 0
none-refuses (Ok u) h = refl
none-refuses (Err rule) h = absurd (h rule refl)
