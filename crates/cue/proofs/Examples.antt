-- Document 01's examples P1 to P10 hold: one computed test over the whole table.
use Prim.Native.Nat.{ℕ}
use mathlib.Core.Path.{◌≡◌, refl, ap₂}
use mathlib.Core.List.{List, [], ◌∷◌}
use mathlib.Core.Bool.{Bool, true, false, ◌&&◌}
use lib.Dec.{eqb}
use borrow.Author.Tests.{eqb-true}
use Rattle.lbp16.specs.Space
use Rattle.lbp16.specs.Word
use Rattle.lbp16.specs.Pointer
use Rattle.lbp16.proofs.BoolLaws.{and_true}
use Rattle.packet.specs.Bytes
use Rattle.packet.specs.Step
use Rattle.packet.specs.Rules
use Rattle.packet.specs.Command
use Rattle.packet.specs.Judge
use Rattle.packet.specs.Verdict
use Rattle.card.specs.Run
use Rattle.spi.specs.Spi
use Rattle.cue.specs.Records
use Rattle.cue.specs.Packing
use Rattle.cue.specs.Output
use Rattle.cue.specs.Compile
use Rattle.cue.specs.Examples
use Rattle.cue.specs.Examples.{Example, table, AllHold}
use native.Mathlib.Omega.{arith}

same : List ℕ → List ℕ → Bool
same [] [] = true
same [] (y ∷ ys) = false
same (x ∷ xs) [] = false
same (x ∷ xs) (y ∷ ys) = eqb x y && same xs ys

right : List Example → Bool
right [] = true
right (e ∷ es) = same e.gives e.paper && right es

same_lists : (xs ys : List ℕ) → same xs ys ≡ true → xs ≡ ys
unfolding same
same_lists [] [] e = refl
same_lists [] (y ∷ ys) e = let z : ◌≡◌ {A = ℕ} 0 1 = cc in absurd (omega arith)
same_lists (x ∷ xs) [] e = let z : ◌≡◌ {A = ℕ} 0 1 = cc in absurd (omega arith)
same_lists (x ∷ xs) (y ∷ ys) e =
    let (head, tail) = and_true (eqb x y) (same xs ys) e in
    ap₂ (λ (z : ℕ) (zs : List ℕ). z ∷ zs) (eqb-true x y head) (same_lists xs ys tail)

right_hold : (es : List Example) → right es ≡ true → AllHold es
unfolding right
right_hold [] t = tt
right_hold (e ∷ es) t =
    let (now, later) = and_true (same e.gives e.paper) (right es) t in
    (same_lists e.gives e.paper now, right_hold es later)

-- opens every definition that the table computes with
unfoldable pub all : Bool
unfolding Space.space_of Space.space_number Space.is_absent Space.row Space.info_row Space.area_row Word.fields_of Word.bit
    Word.word_of Pointer.fresh_spaces Pointer.of_space Pointer.with_space Pointer.pointer_of Pointer.with_pointer Pointer.over
    Pointer.some_over Pointer.above_size Pointer.fresh Bytes.number Bytes.bytes_of Step.is_info Step.row_by Step.at
    Step.carried Step.answered Step.stored Step.source Step.after Step.seen Step.store_after Step.values_read
    Step.reply_bytes Step.is_status Step.is_write Step.names_unlock Step.unlocked_after Step.unlocked Rules.first Rules.misaligned
    Rules.past_end Rules.barred Rules.any_step Command.fields_at Command.kind_of Command.row_of Command.header_bytes
    Command.command_bytes Command.address_used Command.stride Command.payload Command.elements Command.handed
    Command.steps_at Command.out_of_place Command.refusals Command.which_of Command.found Command.pointers_after Judge.begin
    Judge.found_next Judge.carry Judge.judge_from Judge.judge Verdict.answer_to Run.cleared Run.bytes_of_count Run.counted
    Run.bad_state Run.checked_packet Run.checked Run.outcome Run.run_verdict Run.run_packet Records.mark_at Records.record_kind
    Records.record_bytes Records.record_space Records.bytes_of_value Records.record_step Records.reserved Records.bad_element
    Records.upper_half Records.record_refusals Records.with_record Records.records_from Records.records_of
    Packing.command_fields Packing.join_all Packing.bytes_of_command Packing.bytes_of_packet Packing.element_steps
    Packing.command_steps Packing.packet_steps Packing.unlock_command Packing.keeps_limits Packing.commands_of
    Packing.same_kind Packing.joined Packing.joins Packing.needs_unlock Packing.started Packing.turn_by Packing.turn
    Packing.pack_from Packing.packets Output.framed Output.output_of Output.with_frame Output.length_at Output.front_of
    Output.bytes_in_frame Output.behind_frame Output.with_front Output.apart_from Output.apart Compile.packed Compile.output
    Compile.compiled_to Compile.compiled Spi.header_of Examples.shown_fields Examples.shown_header Examples.shown_answer
    Examples.word Examples.header Examples.packet Examples.list
all = true

pub p1_to_p10 : AllHold table
unfolding all right same table
p1_to_p10 = right_hold table refl
