-- Laws of what the exports return and leave, over plain lists.
use Prim.Native.Nat.{ℕ, zero, suc, ◌+◌, ◌≤◌}
use mathlib.Core.Path.{◌≡◌, refl, ap, sym, ◌∙◌}
use mathlib.Core.Bool.{Bool, true, false, not, ◌||◌}
use mathlib.Core.List.{List, [], ◌∷◌}
use native.Mathlib.Omega.{arith}
use lib.ListN.{length}
use lib.Dec.{eqb}
use borrow.Author.Tests.{eqb-true, not-false}
use Rattle.lbp16.specs.Answer.{Answer}
use Rattle.std.specs.Int.{from_bool}
use Rattle.lbp16.specs.Word.{bit}
use Rattle.lbp16.specs.Pointer.{pointers_of}
use Rattle.lbp16.proofs.BoolLaws.{or_false}
use Rattle.packet.specs.Verdict.{verdict_listed}
use Rattle.packet.specs.Counts.{elements_moved}
use Rattle.std.specs.Prelude.{Result, Ok, Err}
use Rattle.lbp16.specs.Answer.{rule_number}
use Rattle.lbp16.specs.declared.Refusal.{Refusal}
use Rattle.card.specs.Run.{LentOutcome, as_lent, run_lent, ran_lent}
use Rattle.card.specs.declared.run.RanLent.{RanLent}
use Rattle.spi.specs.Spi.{Burst, run_burst, burst_left, most_in_burst}
use Rattle.card.proofs.RunLaws.{CheckRefused, RunRefused, refusals-listed}
use Rattle.spi.proofs.SpiLaws.{burst-refused_in_table}
use Rattle.cue.specs.Compile.{compiled, compile_listed, left}
use Rattle.cue.specs.declared.Packed.{Packed}
use Rattle.cue.proofs.CompileLaws.{RefusedList, refused-numbers}
use Rattle.head.specs.Exports.{number_of, value_of, count_of, numbers_of, given, given_by, run_left, run_by, elements_given, spi_left, spi_by}
use Rattle.head.specs.Exports.{compile_left, export_compile}
use Rattle.head.specs.declared.numbers.Numbers.{Numbers}

-- a flag, as the library makes a number of it
pub bit_is : (b : Bool) → from_bool b ≡ bit b
unfolding bit
bit_is false = refl
bit_is true = refl

-- what a run's call leaves, from what the run answers and leaves
pub ran-left : (o : LentOutcome) (r : RanLent) (n : Numbers) (store pointers reply : List ℕ)
    → ran_lent r store pointers reply ≡ o
    → n ≡ numbers_of (verdict_listed r.answer)
    → run_left n.0 n.1 r.elements store pointers reply ≡ run_by o
unfolding ran_lent numbers_of
ran-left o r n store pointers reply done g = rw g (ap run_by done)

-- No refusal of a run has the number 0, so a run that returns 0 has done the packet's commands.
run_never_zero : (packet store pointers reply : List ℕ) (n place : ℕ)
    → (run_lent packet store pointers reply).answer ≡ Answer.refused n place → n ≡ 0 → ⊥
unfolding run_lent as_lent
run_never_zero packet store pointers reply n place e z = by_count_lem (eqb (length pointers) 8) refl
  where
    listed : RunRefused packet store (pointers_of pointers) reply n place → ⊥
    listed (RunRefused.room h m k) = omega arith
    listed (RunRefused.check h (CheckRefused.state b m k)) = omega arith
    listed (RunRefused.check h (CheckRefused.long b l m k)) = omega arith
    listed (RunRefused.check h (CheckRefused.command b l r)) = omega (arith, r.in_table.0)

    by_count_lem : (b : Bool) → eqb (length pointers) 8 ≡ b → ⊥
    by_count_lem true q = listed (refusals-listed packet store (pointers_of pointers) reply n place (rw q at e))
    by_count_lem false q = let m : 1 ≡ n = let f = rw q at e in cc in omega arith

given-by_number : (packet : List ℕ) (a : Answer) (number elements : ℕ) → ((n place : ℕ) → a ≡ Answer.refused n place → n ≡ 0 → ⊥)
    → number ≡ number_of a → elements ≡ elements_moved a packet → elements ≡ elements_given number packet
unfolding number_of elements_moved elements_given
given-by_number packet (Answer.accepted values) number elements never n e = rw n e
given-by_number packet (Answer.refused zero place) number elements never n e = absurd (never zero place refl refl)
given-by_number packet (Answer.refused (suc m) place) number elements never n e = rw n e

-- the elements that a run's call answers
pub run_elements : (packet store pointers reply : List ℕ) (r : RanLent) (n : Numbers) (store' pointers' reply' : List ℕ)
    → ran_lent r store' pointers' reply' ≡ run_lent packet store pointers reply
    → n ≡ numbers_of (verdict_listed r.answer)
    → r.elements ≡ elements_moved (verdict_listed r.answer) packet
    → r.elements ≡ elements_given n.0 packet
unfolding ran_lent numbers_of
run_elements packet store pointers reply r n store' pointers' reply' done g e =
    given-by_number packet (verdict_listed r.answer) n.0 r.elements
    (λ m place q. run_never_zero packet store pointers reply m place (sym (ap (λ (o : LentOutcome). o.answer) done) ∙ q))
    (ap (λ (m : Numbers). m.0) g)
    e

-- what a check's call leaves, from what the check answers
pub check-left : (a : Answer) (r : Result ℕ Refusal) (n : Numbers) → verdict_listed r ≡ a → n ≡ numbers_of (verdict_listed r)
    → given n.0 n.1 ≡ given_by a
unfolding numbers_of
check-left a r n e g = rw (g, e) refl

-- what a burst's call leaves, from what the burst answers and leaves
pub spi_left_lem : (b : Burst) (a : Result ℕ Refusal) (n : Numbers) (store room : List ℕ) → burst_left a store room ≡ b
    → n ≡ numbers_of (verdict_listed a)
    → spi_left n.0 n.1 store room ≡ spi_by b
unfolding burst_left numbers_of
spi_left_lem b a n store room e g = rw g (ap spi_by e)

-- the value of a burst's call: the elements done, or the place, which is 0
pub spi_bounded : (words store room : List ℕ) (a : Result ℕ Refusal) (n : Numbers) (store' room'' : List ℕ)
    → burst_left a store' room'' ≡ run_burst words store room
    → ((k : ℕ) → verdict_listed a ≡ Answer.accepted (k ∷ []) → k ≤ most_in_burst)
    → n ≡ numbers_of (verdict_listed a)
    → n.1 ≤ most_in_burst
unfolding burst_left verdict_listed numbers_of value_of
spi_bounded words store room (Ok k) n store' room'' e h g = rw g (h k refl)
spi_bounded words store room (Err r) n store' room'' e h g =
    let p = (burst-refused_in_table words store room (rule_number r.rule) r.place (sym (ap (λ b. b.answer) e))).at-start in
    let v = ap (λ (m : Numbers). m.1) g in
    omega (arith, v)

-- what a compilation's call leaves
pub compile_left_lem : (list room : List ℕ) (a : Result Packed Refusal) (n : Numbers) (room'' : List ℕ) → left a room'' ≡ compiled list room
    → n ≡ numbers_of (compile_listed a)
    → compile_left n.0 n.1 n.2 room'' ≡ export_compile list room
unfolding left export_compile numbers_of
compile_left_lem list room a n room'' e g =
    rw g (ap (λ c. compile_left (number_of c.answer) (value_of c.answer) (count_of c.answer) c.room) e)

-- No refusal has the number 0, so a compilation that returns 0 has answered its bytes and its packets.
pub never_zero : {list room : List ℕ} {n k : ℕ} → RefusedList list room n k → n ≡ 0 → ⊥
never_zero (RefusedList.bad b) z = omega (arith, b.in_table)
never_zero (RefusedList.small xs e l i j) z = omega arith

pub compile_accepted : (list room : List ℕ) (a : Result Packed Refusal) (n : Numbers) (room'' : List ℕ)
    → left a room'' ≡ compiled list room → (P : ℕ → ℕ → Type 0)
    → ((b p : ℕ) → compile_listed a ≡ Answer.accepted (b ∷ p ∷ []) → P b p)
    → n ≡ numbers_of (compile_listed a)
    → n.0 ≡ 0 → P n.1 n.2
unfolding left compile_listed numbers_of number_of value_of count_of
compile_accepted list room (Ok k) n room'' e P h g z = rw g (h k.bytes k.packets refl)
compile_accepted list room (Err r) n room'' e P h g z =
    absurd
    (never_zero
    (refused-numbers list room (rule_number r.rule) r.place (sym (ap (λ c. c.answer) e)))
    (sym (ap (λ (m : Numbers). m.0) g) ∙ z))

-- lent numbers that are so many, and good
pub good : (n : ℕ) (fields : List ℕ) (bad : Bool) → (not (eqb (length fields) n) || bad) ≡ false → (length fields ≡ n) × (bad ≡ false)
good n fields bad e = let h = or_false _ _ e in (eqb-true _ _ (not-false _ h.0), h.1)
