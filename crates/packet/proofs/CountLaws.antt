-- How many elements a packet can move. Each takes two bytes or more of packet or reply, and 127 of them a command word,
-- which has two bytes.
use Prim.Native.Nat.{ℕ, zero, suc, ◌+◌, ◌*◌, ◌≤◌}
use mathlib.Core.Path.{◌≡◌, refl, ap, ◌∙◌}
use mathlib.Core.List.{List, [], ◌∷◌}
use mathlib.Core.Bool.{Bool, true, false, cond}
use native.Mathlib.Omega.{arith}
use native.Mathlib.Nat.{zero-add, mul-zero}
use lib.Dec.{ltb}
use lib.ListN.{length, take, length-append, length-drop}
use Rattle.lbp16.specs.Space.{Space, registers, eeprom, status, information, absent, is_absent, row, area_row, info_row, space_of}
use Rattle.lbp16.specs.Word.{fields_of}
use Rattle.lbp16.specs.declared.pointer.Pointers.{Pointers}
use Rattle.lbp16.specs.declared.word.Fields.{Fields}
use Rattle.packet.specs.Bytes.{number}
use Rattle.packet.specs.Step.{Kind, read, write, infoRead, is_info, row_by, carried, answered, reply_bytes}
use Rattle.packet.specs.Command.{limit, fields_at, kind_of, command_bytes, elements, steps_at}
use Rattle.packet.specs.Judge.{Carried, begin, carry, judge_from, judge, accepted}
use Rattle.packet.specs.Counts.{counts_from, counts_of, sum}
use Rattle.packet.proofs.StepLaws.{reply-append}
use Rattle.packet.proofs.CommandLaws.{header-some, reply-of_command}
use Rattle.packet.proofs.JudgeLaws.{accepted-past}
use Rattle.packet.proofs.RefusalLaws.{all-passed, reaches_keeps, accepted-within}

pub length-elements : (k : Kind) (s : Space) (n a d : ℕ) (bs : List ℕ) → length (elements k s n a d bs) ≡ n
unfolding elements
length-elements k s zero a d bs = refl
length-elements k s (suc n) a d bs = ap suc (length-elements k s n (a + d) d _)

-- a command moves as many elements as it counts
pub command-elements : (p : Pointers) (f : Fields) (rest : List ℕ) → length (steps_at p f rest) ≡ f.count
unfolding steps_at
command-elements p f rest = length-elements _ _ _ _ _ _

-- from any place of a packet on
counted-from : (fuel : ℕ) (c : Carried) (rest : List ℕ) (end : Carried) → judge_from fuel c rest ≡ accepted end
    → length end.steps ≡ length c.steps + sum (counts_from fuel rest)
unfolding judge_from carry counts_from sum
counted-from zero c rest end e = let q : c ≡ end = cc in rw (← q) (omega arith)
counted-from (suc fuel) c [] end e = let q : c ≡ end = cc in rw (← q) (omega arith)
counted-from (suc fuel) c (b ∷ bs) end e =
    let (next, on) = accepted-past fuel c b bs end e in
    let n = command-elements c.pointers (fields_at (b ∷ bs)) (b ∷ bs) in
    rw (counted-from fuel (carry c (b ∷ bs)) _ end on, length-append, n) (omega arith)

-- An accepted packet's steps are as many as its commands count together.
pub steps-counted : (p : Pointers) (packet : List ℕ) (c : Carried) → judge p packet ≡ accepted c
    → length c.steps ≡ sum (counts_of packet)
unfolding judge begin counts_of
steps-counted p packet c e = counted-from (length packet) (begin p) packet c e ∙ zero-add _

-- a command counts at most 127
pub few : (rest : List ℕ) → (fields_at rest).count ≤ 127
unfolding fields_at fields_of
few rest = go (ltb (length rest) 2) (number (take 2 rest))
  where
    go : (b : Bool) (w : ℕ) → (cond b (fields_of 0) (fields_of w)).count ≤ 127
    go true w = omega arith
    go false w = omega arith

two-each : (s : Space) (n : ℕ) → is_absent s ≡ false → 2 * n ≤ n * (row s).element
unfolding row is_absent
two-each registers n h = omega arith
two-each eeprom n h = omega arith
two-each status n h = omega arith
two-each information n h = omega arith
two-each absent n h = let z : ◌≡◌ {A = ℕ} 0 1 = cc in absurd (omega arith)

paid : (k : Kind) (s : Space) (n : ℕ) → is_absent s ≡ false → 2 * n ≤ n * carried k s + n * answered k s
unfolding carried answered row_by is_info area_row info_row
paid read s n h = let e = two-each s n h in rw mul-zero (omega arith)
paid write s n h = let e = two-each s n h in rw mul-zero (omega arith)
paid infoRead s n h = omega arith

-- The three counts in one: what a command moves is paid for by its bytes and its reply's.
command-paid : (c : Carried) (rest : List ℕ) → is_absent (space_of (fields_at rest).space) ≡ false
    → 256 * length (steps_at c.pointers (fields_at rest) rest)
    ≤ 127 * (reply_bytes (steps_at c.pointers (fields_at rest) rest) + command_bytes (fields_at rest))
unfolding command_bytes
command-paid c rest h =
    let f = fields_at rest in
    let a = paid (kind_of f) (space_of f.space) f.count h in
    let b = few rest in
    let d = header-some f in
    rw (command-elements c.pointers f rest, reply-of_command c.pointers f rest) (omega arith)

-- what the commands so far moved is paid for
abbrev pub Paid : Carried → Type 0
Paid c = 256 * length c.steps ≤ 127 * (reply_bytes c.steps + c.place)

pub paid-start : (p : Pointers) → Paid (begin p)
unfolding begin reply_bytes
paid-start p = omega arith

pub paid-next : (c : Carried) (rest : List ℕ) → is_absent (space_of (fields_at rest).space) ≡ false → Paid c
    → Paid (carry c rest)
unfolding carry
paid-next c rest h l =
    let e = command-paid c rest h in
    rw (length-append, reply-append) (omega arith)

pub accepted-paid : (p : Pointers) (packet : List ℕ) (c : Carried) → judge p packet ≡ accepted c → Paid c
accepted-paid p packet c e =
    reaches_keeps (λ d rest. Paid d) (λ d rest n h. paid-next d rest n.present h) (all-passed p packet c e) (paid-start p)

-- an accepted packet's commands end with it
accepted-place : (p : Pointers) (packet : List ℕ) (c : Carried) → judge p packet ≡ accepted c → c.place + 0 ≡ length packet
unfolding begin carry
accepted-place p packet c e =
    reaches_keeps (λ d rest. d.place + length rest ≡ length packet)
    (λ d rest n h. let w = n.whole in rw length-drop (omega arith))
    (all-passed p packet c e)
    (omega arith)

-- A packet of at most 1,472 bytes, with a reply of at most as many, moves at most 1,460 elements.
pub few-elements : (p : Pointers) (packet : List ℕ) (c : Carried) → length packet ≤ limit → judge p packet ≡ accepted c
    → length c.steps ≤ 1460
few-elements p packet c l e =
    let q = accepted-paid p packet c e in
    let r = accepted-place p packet c e in
    let w = accepted-within p packet c e in
    omega arith
