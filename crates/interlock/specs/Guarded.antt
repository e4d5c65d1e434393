-- Check, run and burst with a guard: what the plain ones answer and leave, but for what would be accepted and would write a protected
-- byte. And a cue list with a guard.
use Rattle.std.specs.Prelude.{ℕ, zero, suc, ◌+◌, List, [], ◌∷◌, ◌++◌, cond, length, drop, eqb}
use Rattle.lbp16.specs.Answer.{Answer}
use Rattle.lbp16.specs.Pointer.{pointers_of}
use Rattle.lbp16.specs.declared.pointer.Pointers.{Pointers}
use Rattle.packet.specs.Step.{Step}
use Rattle.packet.specs.Rules.{Rule, first}
use Rattle.packet.specs.Command.{fields_at, command_bytes, steps_at, pointers_after}
use Rattle.packet.specs.Judge.{Verdict, refused, accepted}
use Rattle.packet.specs.Verdict.{answer_to}
use Rattle.card.specs.Run.{Outcome, outcome, run_verdict, checked_lent, LentOutcome, as_lent}
use Rattle.spi.specs.Spi.{Burst, header_of, first_word, burst_steps, burst_refusals, burst_outcome}
use Rattle.cue.specs.Records.{Listed, records_of}
use Rattle.cue.specs.Records
use Rattle.interlock.specs.Guard.{soundness, writes_protected, protected}

-- A guard that is not sound is refused before all else.
unfoldable pub sound_first : Answer → Verdict → Verdict
sound_first (Answer.accepted pairs) v = v
sound_first (Answer.refused n index) v = refused n index

-- The offset of the first command that writes a protected byte, each on the pointers that those before it leave; the packet's length
-- if none does. `fuel` bounds the number of commands.
unfoldable pub place_from : List ℕ → ℕ → Pointers → ℕ → List ℕ → ℕ
place_from guard zero p place rest = place
place_from guard (suc fuel) p place [] = place
place_from guard (suc fuel) p place (b ∷ bs) =
    let rest = b ∷ bs in
    let f = fields_at rest in
    cond (protected guard (steps_at p f rest)) place
    (place_from guard fuel (pointers_after p f rest) (place + command_bytes f) (drop (command_bytes f) rest))

unfoldable pub protected_place : List ℕ → Pointers → List ℕ → ℕ
protected_place guard p packet = place_from guard (length packet) p 0 packet

-- 71: what would be accepted and writes a protected byte. A refusal stays what it is.
unfoldable pub held_back : List ℕ → Pointers → List ℕ → Verdict → Verdict
held_back guard p packet (refused n place) = refused n place
held_back guard p packet (accepted c) =
    cond (protected guard c.steps) (refused 71 (protected_place guard p packet)) (accepted c)

unfoldable pub guarded_verdict : List ℕ → Pointers → List ℕ → Verdict → Verdict
guarded_verdict guard p packet v = sound_first (soundness guard) (held_back guard p packet v)

-- The check, on pointers that are lent as a list.
unfoldable pub guarded_check : List ℕ → List ℕ → List ℕ → List ℕ → Verdict
guarded_check guard packet store pointers = guarded_verdict guard (pointers_of pointers) packet (checked_lent packet store pointers)

-- The run: a refusal leaves all as it was.
unfoldable pub guarded_packet : List ℕ → List ℕ → List ℕ → Pointers → List ℕ → Outcome
guarded_packet guard packet store p reply = outcome (guarded_verdict guard p packet (run_verdict packet store p reply)) store p reply

-- The same with pointers lent as a list; another count of them than eight is refused with 1.
unfoldable pub guarded_run : List ℕ → List ℕ → List ℕ → List ℕ → List ℕ → LentOutcome
guarded_run guard packet store pointers reply =
    cond (eqb (length pointers) 8) (as_lent (guarded_packet guard packet store (pointers_of pointers) reply))
    (record {
      answer = answer_to (sound_first (soundness guard) (refused 1 0));
      elements = 0;
      store = store;
      reply = reply;
      pointers = pointers;
    })

-- all elements that a burst's header promises, whether their words came or not
unfoldable pub promised : List ℕ → List Step
promised words = let h = header_of (first_word words) in burst_steps h h.count words

-- 71 comes after the plain burst's refusals.
unfoldable pub guarded_refusals : List ℕ → List ℕ → List ℕ → List ℕ → List Rule
guarded_refusals guard words store room =
    burst_refusals words store room ++ (record { number = 71; holds = protected guard (promised words) } ∷ [])

unfoldable pub burst_by : Answer → ℕ → List ℕ → List ℕ → List ℕ → Burst
burst_by (Answer.accepted pairs) number words store room = burst_outcome number words store room
burst_by (Answer.refused n index) number words store room = record { answer = Answer.refused n index; store = store; room = room }

unfoldable pub guarded_burst : List ℕ → List ℕ → List ℕ → List ℕ → Burst
guarded_burst guard words store room = burst_by (soundness guard) (first (guarded_refusals guard words store room)) words store room

-- The number of records, or 71 with the index of the first that writes a protected byte.
unfoldable pub records_held : List ℕ → ℕ → List Step → Answer
records_held guard index [] = Answer.accepted (index ∷ [])
records_held guard index (x ∷ xs) = cond (writes_protected guard x) (Answer.refused 71 index) (records_held guard (index + 1) xs)

-- the compiler's refusal comes before that
unfoldable pub list_held : List ℕ → Listed → Answer
list_held guard (Records.refused n i) = Answer.refused n i
list_held guard (Records.records xs) = records_held guard 0 xs

unfoldable pub list_by : Answer → Answer → Answer
list_by (Answer.accepted pairs) answer = answer
list_by (Answer.refused n index) answer = Answer.refused n index

unfoldable pub guarded_list : List ℕ → List ℕ → Answer
guarded_list guard list = list_by (soundness guard) (list_held guard (records_of list))
