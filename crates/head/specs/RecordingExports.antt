-- What head_judge returns and leaves. The numbers 61 to 65 are this boundary's own.
use Rattle.std.specs.Prelude.{ℕ, List, cond, length, eqb}
use Rattle.recording.specs.Recording.{Verdict, yes, refused, bad_packet, bad_length, bad_byte, cut, unmarked, Said, judged}
use Rattle.lbp16.specs.Pointer.{pointers_of, lent_pointers}
use Rattle.head.specs.declared.numbers.Numbers.{Numbers}

-- The number returned; the packets judged, or the packet or the part at fault; a wrong byte's place in its reply.
unfoldable pub judged_numbers : Verdict → Numbers
judged_numbers (yes n) = (0, n, 0)
judged_numbers (refused n place) = (n, 0, place)
judged_numbers (bad_packet i) = (61, i, 0)
judged_numbers (bad_length i) = (62, i, 0)
judged_numbers (bad_byte i k) = (63, i, k)
judged_numbers (cut part) = (64, part, 0)
judged_numbers (unmarked part) = (65, part, 0)

pub record JudgeExport : Type 0 where
  pub number : ℕ
  pub index : ℕ
  pub place : ℕ
  pub store : List ℕ
  pub pointers : List ℕ

abbrev pub judge_left : ℕ → ℕ → ℕ → List ℕ → List ℕ → JudgeExport
judge_left number index place store pointers =
    record { number = number; index = index; place = place; store = store; pointers = pointers }

unfoldable pub of_said : Said → JudgeExport
of_said s =
    let n = judged_numbers s.verdict in
    judge_left n.0 n.1 n.2 s.store (lent_pointers s.pointers)

-- Refused with 1 where there are not eight pointers.
unfoldable pub export_judge : List ℕ → List ℕ → List ℕ → JudgeExport
export_judge show store pointers =
    cond (eqb (length pointers) 8) (of_said (judged show store (pointers_of pointers))) (judge_left 1 0 0 store pointers)
