-- What a packet's text says: as many lines as there are commands, the check's refusal, and the run's pointers.
use Prim.Native.Nat.{ℕ, zero, suc, ◌+◌}
use mathlib.Core.Path.{◌≡◌, refl, ap}
use mathlib.Core.List.{List, [], ◌∷◌, ◌++◌}
use mathlib.Core.Bool.{false}
use borrow.Author.Tests.{eq-eqb}
use lib.ListN.{length, take, drop}
use Rattle.lbp16.specs.declared.pointer.Pointers.{Pointers}
use Rattle.packet.specs.Command.{limit, fields_at, command_bytes, pointers_after}
use Rattle.packet.specs.Counts.{counts_from, counts_of}
use Rattle.packet.specs.Judge.{Verdict, refused, accepted}
use Rattle.card.specs.Run.{bad_state, checked_packet, checked, outcome, run_verdict, run_packet}
use Rattle.reason.specs.Reason.{pointers_left, reason_of}
use Rattle.packet_text.specs.Packet.{line_text, lines_from, lines_text, refusal_text, refused_packet, text_by, packet_text}

-- the lines one by one, and put together
lines_of : ℕ → Pointers → ℕ → List ℕ → List (List ℕ)
lines_of zero p place rest = []
lines_of (suc fuel) p place [] = []
lines_of (suc fuel) p place (b ∷ bs) =
    line_text p place (b ∷ bs)
    ∷ lines_of fuel (pointers_after p (fields_at (b ∷ bs)) (b ∷ bs)) (place + command_bytes (fields_at (b ∷ bs)))
    (drop (command_bytes (fields_at (b ∷ bs))) (b ∷ bs))

pub joined : List (List ℕ) → List ℕ
joined [] = []
joined (l ∷ ls) = l ++ joined ls

lines-joined : (fuel : ℕ) (p : Pointers) (place : ℕ) (rest : List ℕ) → lines_from fuel p place rest ≡ joined (lines_of fuel p place rest)
unfolding lines_from lines_of joined
lines-joined zero p place rest = refl
lines-joined (suc fuel) p place [] = refl
lines-joined (suc fuel) p place (b ∷ bs) =
    ap (λ (l : List ℕ). line_text p place (b ∷ bs) ++ l)
    (lines-joined fuel (pointers_after p (fields_at (b ∷ bs)) (b ∷ bs)) (place + command_bytes (fields_at (b ∷ bs)))
    (drop (command_bytes (fields_at (b ∷ bs))) (b ∷ bs)))

lines-counted : (fuel : ℕ) (p : Pointers) (place : ℕ) (rest : List ℕ) → length (lines_of fuel p place rest) ≡ length (counts_from fuel rest)
unfolding lines_of counts_from
lines-counted zero p place rest = refl
lines-counted (suc fuel) p place [] = refl
lines-counted (suc fuel) p place (b ∷ bs) =
    ap suc
    (lines-counted fuel (pointers_after p (fields_at (b ∷ bs)) (b ∷ bs)) (place + command_bytes (fields_at (b ∷ bs)))
    (drop (command_bytes (fields_at (b ∷ bs))) (b ∷ bs)))

-- A line for each command.
pub line_for_each : (p : Pointers) (commands : List ℕ)
    → (lines : List (List ℕ)) × ((lines_text p commands ≡ joined lines) × (length lines ≡ length (counts_of commands)))
unfolding lines_text counts_of
line_for_each p commands = (
  lines_of (length commands) p 0 commands,
  (lines-joined (length commands) p 0 commands, lines-counted (length commands) p 0 commands),
)

-- A refused packet's text ends with the check's refusal.
pub refusal-said : (p : Pointers) (packet : List ℕ) (n place : ℕ) → checked_packet p packet ≡ refused n place
    → packet_text p packet
    ≡ lines_text p (take (reason_of p packet (refused n place)).place packet) ++ refusal_text packet (reason_of p packet (refused n place))
unfolding packet_text text_by refused_packet
refusal-said p packet n place e = rw e refl

-- The pointers are those that a run leaves.
same-pointers : (v : Verdict) (store : List ℕ) (p : Pointers) (reply : List ℕ) → (outcome v store p reply).pointers ≡ pointers_left v p
unfolding outcome pointers_left
same-pointers (refused n place) store p reply = refl
same-pointers (accepted c) store p reply = refl

pub pointers_run : (packet store : List ℕ) (p : Pointers) (reply : List ℕ) → bad_state store p ≡ false → length reply ≡ limit
    → (run_packet packet store p reply).pointers ≡ pointers_left (checked_packet p packet) p
unfolding run_packet run_verdict checked checked_packet
pointers_run packet store p reply fine e = rw (eq-eqb _ _ e, fine) (same-pointers (checked_packet p packet) store p reply)
