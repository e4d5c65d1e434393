-- What is said of a capture, from what reading it into two rooms answers and leaves.
use Rattle.std.specs.Prelude.{ℕ, List, take, get_or, replicate}
use Rattle.lbp16.specs.Answer.{Answer}
use Rattle.lbp16.specs.declared.pointer.Pointers.{Pointers}
use Rattle.packet.specs.Command.{limit}
use Rattle.capture.specs.Capture.{Captured}
use Rattle.showcheck_output.specs.Findings.{judged_text}
use Rattle.showcheck_output.specs.Input.{unread_text}

unfoldable pub answer_text : Answer → List ℕ → List ℕ → List ℕ → Pointers → List ℕ
answer_text (Answer.refused n k) room frames store p = unread_text n k
answer_text (Answer.accepted values) room frames store p =
    judged_text (take (get_or values 0 0) room) (take (get_or values 1 0) frames) store p (replicate limit 0)

unfoldable pub read_text : Captured → List ℕ → Pointers → List ℕ
read_text c store p = answer_text c.answer c.room c.frames store p
