-- Whether a command takes its address from a pointer.
use Rattle.std.specs.Prelude.{ℕ, zero, suc, ◌-◌, List, Bool, false, not, ◌||◌, ◌&&◌, cond, length, drop, eqb, ltb}
use Rattle.packet.specs.Command.{fields_at, command_bytes}
use Rattle.reason.specs.declared.Reason.{Reason}

-- the command at the front; not where its word is cut off
unfoldable pub by_pointer : List ℕ → Bool
by_pointer rest = ltb 1 (length rest) && not (fields_at rest).address

-- one of those in the first n bytes; `fuel` bounds their number, and as many as there are bytes is enough
unfoldable pub pointed_from : ℕ → ℕ → List ℕ → Bool
pointed_from zero n rest = false
pointed_from (suc fuel) zero rest = false
pointed_from (suc fuel) (suc n) rest =
    let k = command_bytes (fields_at rest) in
    by_pointer rest || pointed_from fuel (suc n - k) (drop k rest)

-- one of those before a place, or the one there
unfoldable pub pointed_to : ℕ → List ℕ → Bool
pointed_to place packet = pointed_from place place packet || by_pointer (drop place packet)

-- of a packet with its reason: one of all commands, or of those up to the one that is refused
unfoldable pub uses_pointer : List ℕ → Reason → Bool
uses_pointer packet r =
    cond (eqb r.number 0) (pointed_to (length packet) packet) (cond (ltb r.number 3) false (pointed_to r.place packet))
