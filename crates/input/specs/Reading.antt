-- What a read gives: so many bytes came, none at the end; or it failed.
use Rattle.std.specs.Prelude.{ℕ, ◌+◌, ◌≡◌, ◌<◌, ◌≤◌, List, length, take, drop, Result, Ok, IfOk}
use Rattle.std.specs.Io.KnownBytes.{Consumes, IsAtEnd, Keeps, ReadConsumes}
use Rattle.std.specs.declared.option.Option.{Option}

-- the bytes that came stand in the room, behind the first `from`
abbrev pub Behind : {E : Type 0} → ℕ → Result ℕ E → List ℕ → Type 0
Behind from r room = IfOk r (λ n. from + n ≤ length room)

-- or at its front
abbrev pub Within : {E : Type 0} → Result ℕ E → List ℕ → Type 0
Within r room = IfOk r (λ n. n ≤ length room)

-- where the reader's bytes are known: those that came were next, and are gone from it, none only at its end or without room; a
-- read that failed took none
abbrev pub TookSome : {E : Type 0} → Option (List ℕ) → Option (List ℕ) → Result ℕ E → List ℕ → Type 0
TookSome old new r room = ReadConsumes old new r room

-- nothing was read
abbrev pub TookNone : {E : Type 0} → Option (List ℕ) → Option (List ℕ) → Result ℕ E → Type 0
TookNone old new r = (r ≡ Ok 0) × Keeps old new

-- the same behind bytes that were there before
abbrev pub TookBehind : {E : Type 0} → Option (List ℕ) → Option (List ℕ) → ℕ → Result ℕ E → List ℕ → Type 0
TookBehind old new from r room = TookSome old new r (drop from room)

-- the same of all: fewer than the room has only at the end
abbrev pub TookAll : {E : Type 0} → Option (List ℕ) → Option (List ℕ) → Result ℕ E → List ℕ → Type 0
TookAll old new r room = IfOk r (λ n. Consumes old new (take n room) × (n < length room → IsAtEnd new))
