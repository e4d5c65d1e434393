use native.Mathlib.Omega.{arith}
use borrow.Author.Tests.{eq-eqb, ne_eqb}
use mathlib.Core.Path.{◌≡◌, refl, sym, ◌∙◌}
use lib.ListN.{length-take, length-drop}
use Rattle.packet.specs.Command.{fields_at, which_listed}
use Rattle.packet.specs.Inside.{ForRegisters}
use Rattle.lbp16.specs.Answer.{Answer}
use mathlib.Core.List.{[], ◌∷◌}
use Prim.Native.Nat.{ℕ}
use Rattle.packet.specs.Verdict.{answer_to, verdict_listed}
use Rattle.packet.specs.declared.command.Which.{Which}
use Rattle.packet.specs.declared.command.Which.TheVariants.{Read, Write}
use Rattle.packet.proofs.ReachLaws.{registers-word}
use Rattle.packet.proofs.LoopLaws.{Checked, checking_start, checking_refused, checking_passed}
use Rattle.packet.proofs.LoopLaws.{checking_next, checking_read, checking_registers, checking_end}
use Rattle.packet.proofs.judge.judge_lent.Goals as goal
use Rattle.packet.proofs.judge.judge_lent.Goals.{then-for_registers, in-Read, in-Write, else-for_registers, in-Read-which, in-Write-which}

pub returns-then-lent-ne8 : goal.returns-then-lent-ne8
unfolding answer_to
returns-then-lent-ne8 c = rw (ne_eqb _ _ c.if-lent-ne8.true) c.refused.ensures

pub copied-pointers-requires : goal.copied-pointers-requires
copied-pointers-requires c = c.if-lent-ne8.false

pub loop-rest-init : goal.loop-rest-init
loop-rest-init c = rw c.copied-pointers.ensures (checking_start _ _ c.if-lent-ne8.false)

pub overflow_sub-place : goal.overflow_sub-place
overflow_sub-place c = c.loop-rest.invariant.left

pub register_at-c-requires : goal.register_at-c-requires
register_at-c-requires c = let plain = sym c.for_registers.ensures ∙ c.if-for_registers.true in
    (c.word_at-word.ensures, registers-word _ _ refl plain, c.loop-rest.invariant.within)

pub returns-in-Refused : goal.returns-in-Refused
returns-in-Refused c = let eight = c.if-lent-ne8.false in
    let is = c.in-Refused.is in
    rw (eq-eqb _ _ eight)
    (c.refused-in-Refused.ensures ∙ checking_refused c.loop-rest.invariant c.loop-rest-test.true _ (c.register_at-c.ensures _) _ is)

pub area_at-c-requires : goal.area_at-c-requires
area_at-c-requires c = (c.word_at-word.ensures, c.loop-rest.invariant.within)

pub returns-in-Refused-which : goal.returns-in-Refused-which
returns-in-Refused-which c = let eight = c.if-lent-ne8.false in
    let is = c.in-Refused-which.is in
    rw (eq-eqb _ _ eight)
    (c.refused-in-Refused-which.ensures ∙ checking_refused c.loop-rest.invariant c.loop-rest-test.true _ c.area_at-c.ensures _ is)

is-write : (w : Which) (place : ℕ) → w ≡ Write → which_listed w place ≡ Answer.accepted (1 ∷ [])
unfolding which_listed
is-write w place h = rw h refl

is_read : (w : Which) (place : ℕ) → w ≡ Read → which_listed w place ≡ Answer.accepted (0 ∷ [])
unfolding which_listed
is_read w place h = rw h refl

pub unlocked_next-unlocked-requires : goal.unlocked_next-unlocked-requires
unlocked_next-unlocked-requires c = let found = c.area_at-c.result.found in
    (checking_passed c.loop-rest.invariant c.loop-rest-test.true _ c.area_at-c.ensures 1
    (is-write found.which found.place c.in-Write-which.is)
    ).header

-- what the turn leaves, from either branch
turn : (c : goal.After-struct_known-1)
    → Checked c.args.lent.now c.args.packet.now c.loop-rest.pointers c.if-for_registers.unlocked c.loop-rest.reply c.loop-rest.rest.now
    c.if-for_registers.reach
turn c = elim c.if-for_registers.branch [
  | then-for_registers w ↦
      let found = w.register_at-c.result.found in
      let registers : ForRegisters (fields_at c.loop-rest.rest.now) =
      rw (← c.word_at-word.ensures) (registers-word _ _ refl (sym c.for_registers.ensures ∙ w.if-for_registers.true)) in
      rw (w.unlocked-is, w.reach-is)
      (elim w.match-which.branch [
        | in-Read v ↦ checking_registers c.loop-rest.invariant c.loop-rest-test.true _ (w.register_at-c.ensures _) 0
            (is_read found.which found.place v.in-Read.is) registers
        | in-Write v ↦ checking_registers c.loop-rest.invariant c.loop-rest-test.true _ (w.register_at-c.ensures _) 1
            (is-write found.which found.place v.in-Write.is) registers
      ])
  | else-for_registers w ↦
      let found = w.area_at-c.result.found in
      rw (w.unlocked-is, w.reach-is)
      (elim w.match-which-2.branch [
        | in-Read-which v ↦ checking_read c.loop-rest.invariant c.loop-rest-test.true _ w.area_at-c.ensures
            (is_read found.which found.place v.in-Read-which.is) _ v.unlocked-is
        | in-Write-which v ↦ checking_next c.loop-rest.invariant c.loop-rest-test.true _ w.area_at-c.ensures 1
            (is-write found.which found.place v.in-Write-which.is) _ (v.unlocked-is ∙ v.unlocked_next-unlocked.ensures)
      ])
]

pub overflow_add-reply : goal.overflow_add-reply
overflow_add-reply c = let h = (turn c).answers in omega arith

pub offset_bounds-pointers-slot : goal.offset_bounds-pointers-slot
offset_bounds-pointers-slot c = let h = (turn c).slot in omega arith

pub bounds-pointers-slot : goal.bounds-pointers-slot
bounds-pointers-slot c = (turn c).slot

pub slice_bounds-rest-count : goal.slice_bounds-rest-count
slice_bounds-rest-count c = (turn c).whole

pub slice_bounds-rest-start : goal.slice_bounds-rest-start
slice_bounds-rest-start c = (turn c).whole

-- back to the join, from the loop's end
abbrev at_join : goal.After-rest-1 → goal.After-struct_known-1
at_join c = record { before = c.before.before; type_inv = record { lent = c.type_inv.lent; packet = c.type_inv.packet } }

pub loop-rest-smaller : goal.loop-rest-smaller
loop-rest-smaller c = let t = turn (at_join c) in let h = t.some in let w = t.whole in simp (length-take, length-drop) (omega arith)

pub loop-rest-preserved : goal.loop-rest-preserved
loop-rest-preserved c = (turn (at_join c)).again

pub returns : goal.returns
unfolding verdict_listed
returns c = rw (eq-eqb _ _ c.if-lent-ne8.false) (checking_end c.loop-rest.invariant (omega arith))
