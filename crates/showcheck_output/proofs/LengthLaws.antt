-- How long the texts are.
use Prim.Native.Nat.{ℕ, ◌+◌, ◌^◌, ◌≤◌, ◌<◌}
use mathlib.Core.Path.{◌≡◌, refl}
use mathlib.Core.List.{List, []}
use native.Mathlib.Omega.{arith}
use lib.ListN.{length, take, length-append}
use Rattle.lbp16.specs.Space.{store_bytes}
use Rattle.lbp16.specs.declared.pointer.Pointers.{Pointers}
use Rattle.cue.specs.Output.{front_of}
use Rattle.text.specs.Number.{ascii}
use Rattle.why_output.specs.Wording.{said}
use Rattle.why_output.specs.Packets.{shown_bytes}
use Rattle.text.proofs.LineLaws.{numbered-length, cond-length}
use Rattle.why_output.proofs.RoomLaws.{said_fits}
use Rattle.showcheck_output.specs.Findings.{between, frame_text, named, both_replies, replies_text, bytes_of_front, behind_front, bad_byte_text}
use Rattle.showcheck_output.specs.Findings.{shown_text, unanswered, unanswered_text, refused_text}
use Rattle.showcheck_output.proofs.AroundLaws.{line-length}

-- a number between two texts
pub between-length : (before after : List ℕ) (n : ℕ) → n < 2 ^ 64 → length (between before n after) ≤ length before + length after + 20
unfolding between
between-length before after n small =
    let a = numbered-length before n (omega arith) in
    rw length-append (omega arith)

-- a number and a frame
pub named-length : (label frames : List ℕ) (n i : ℕ) → n < 2 ^ 64 → length (frame_text frames i) ≤ 29
    → length (named label n frames i) ≤ length label + 49
unfolding named
named-length label frames n i small h =
    let a = numbered-length label n (omega arith) in
    rw length-append (omega arith)

-- all that is said of a byte that is wrong
both-length : (found reply : List ℕ) (k : ℕ) → length (both_replies found reply k) ≤ 72
unfolding both_replies ascii
both-length found reply k =
    let a = line-length (ascii "expected") k (take (length found) reply) in
    let b = line-length (ascii "found   ") k found in
    rw length-append (omega arith)

pub bad-byte_length : (frames : List ℕ) (i k : ℕ) (rest reply : List ℕ) → length (named (ascii "packet ") i frames i) ≤ 56
    → length (between (ascii ", byte ") k (ascii " of its reply is wrong\n")) ≤ 50 → length (bad_byte_text frames i k rest reply) ≤ 256
unfolding bad_byte_text replies_text
bad-byte_length frames i k rest reply a b =
    let c = both-length (bytes_of_front (behind_front rest)) reply k in
    simp length-append (omega arith)

-- what `why` says
pub said-room : (packet store : List ℕ) (p : Pointers) → length (said packet store p) ≤ 24576
said-room packet store p = let f = said_fits packet store p in omega arith

-- the line of a packet that is refused, and all that is said of it
pub shown-length : (frames : List ℕ) (i : ℕ) (packet : List ℕ) → length (named (ascii "packet ") i frames i) ≤ 56
    → length (shown_bytes packet) ≤ 4416 → length (shown_text frames i packet) ≤ 4485
unfolding shown_text ascii
shown-length frames i packet a b = simp length-append (omega arith)

unanswered-length : (behind : List ℕ) → length (unanswered_text behind) ≤ 56
unfolding unanswered_text ascii
unanswered-length behind =
    cond-length 56 (unanswered (front_of behind)) (ascii "it has no reply: a card does not answer what it refuses\n") [] (omega arith) (omega arith)

pub refused-length : (frames : List ℕ) (i : ℕ) (packet behind store : List ℕ) (p : Pointers) → length (shown_text frames i packet) ≤ 4485
    → length (refused_text frames i packet behind store p) ≤ 24576
unfolding refused_text
refused-length frames i packet behind store p a =
    let b = said_fits packet store p in
    let c = unanswered-length behind in
    simp length-append (omega arith)

-- The number that the texts say is the store's.
pub store_said : store_bytes ≡ 65728
store_said = refl
