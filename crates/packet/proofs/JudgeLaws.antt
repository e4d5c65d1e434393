-- Laws of a packet's check: one command of it, and the pointers that it leaves.
use Prim.Native.Nat.{ℕ, zero, suc, ◌≤◌}
use mathlib.Core.Path.{◌≡◌, refl}
use mathlib.Core.List.{List, [], ◌∷◌}
use mathlib.Core.Bool.{false}
use lib.ListN.{length, drop}
use native.Mathlib.Omega.{arith}
use Rattle.lbp16.specs.Answer.{Answer}
use Rattle.lbp16.specs.Pointer.{above_size}
use Rattle.lbp16.specs.declared.pointer.Pointers.{Pointers}
use Rattle.packet.specs.Step.{Kind, unlocked, reply_bytes}
use Rattle.packet.specs.Command.{fields_at, command_bytes, which_of, found}
use Rattle.packet.specs.Judge.{Carried, Verdict, refused, accepted, begin, found_next, carry, verdict_at, judge_from, judge}
use Rattle.packet.specs.Verdict.{answer_to}
use Rattle.packet.proofs.CommandLaws.{passed, passes, pointer-kept}
use Rattle.packet.specs.Inside.{Passed}

-- the next command passes
abbrev pub PassedNext : Carried → List ℕ → Type 0
PassedNext c rest = Passed c.pointers (unlocked false c.steps) (reply_bytes c.steps) (fields_at rest) rest

-- the rest of the check, after a command that passes
abbrev pub onward : ℕ → Carried → List ℕ → Verdict
onward fuel c rest = judge_from fuel (carry c rest) (drop (command_bytes (fields_at rest)) rest)

-- at a command the check goes on exactly when there is no refusal's number
verdict-past : (k : Kind) (place : ℕ) (v : Verdict) → verdict_at (which_of 0 place k) v ≡ v
unfolding which_of
verdict-past k place v = refl

verdict-accepted : (n : ℕ) (k : Kind) (place : ℕ) (v : Verdict) (end : Carried)
    → verdict_at (which_of n place k) v ≡ accepted end → (n ≡ 0) × (v ≡ accepted end)
unfolding which_of
verdict-accepted zero k place v end e = (refl, e)
verdict-accepted (suc n) k place v end e = let z : ◌≡◌ {A = ℕ} 0 1 = cc in absurd (omega arith)

-- a packet's end is accepted, whatever the fuel
pub judged-end : (fuel : ℕ) (c : Carried) → judge_from fuel c [] ≡ accepted c
unfolding judge_from
judged-end zero c = refl
judged-end (suc fuel) c = refl

-- The check goes on past a command that passes, and an accepted packet's command has passed.
pub judged-past : (fuel : ℕ) (c : Carried) (rest : List ℕ) → 1 ≤ length rest → PassedNext c rest
    → judge_from (suc fuel) c rest ≡ onward fuel c rest
unfolding judge_from found_next found
judged-past fuel c [] l h = absurd (omega arith)
judged-past fuel c (b ∷ bs) l h = rw (passes _ _ _ _ _ h) (verdict-past _ _ _)

pub accepted-past : (fuel : ℕ) (c : Carried) (b : ℕ) (bs : List ℕ) (end : Carried)
    → judge_from (suc fuel) c (b ∷ bs) ≡ accepted end → PassedNext c (b ∷ bs) × (onward fuel c (b ∷ bs) ≡ accepted end)
unfolding judge_from found_next found
accepted-past fuel c b bs end e = let (none, on) = verdict-accepted _ _ _ _ end e in (passed _ _ _ _ _ none, on)

-- from any place of a packet on
kept_from : (fuel : ℕ) (c : Carried) (rest : List ℕ) (end : Carried) → above_size c.pointers ≡ false
    → judge_from fuel c rest ≡ accepted end → above_size end.pointers ≡ false
unfolding judge_from carry
kept_from zero c rest end h e = let q : c ≡ end = cc in rw q at h
kept_from (suc fuel) c [] end h e = let q : c ≡ end = cc in rw q at h
kept_from (suc fuel) c (b ∷ bs) end h e =
    let (next, on) = accepted-past fuel c b bs end e in
    kept_from fuel (carry c (b ∷ bs)) _ end (pointer-kept _ _ _ _ _ next h) on

-- An accepted packet leaves no pointer above its space's size.
pub pointers-kept : (p : Pointers) (packet : List ℕ) (c : Carried) → above_size p ≡ false → judge p packet ≡ accepted c
    → above_size c.pointers ≡ false
unfolding judge begin
pointers-kept p packet c h e = kept_from (length packet) (begin p) packet c h e

-- An answer with a length is that of an accepted packet.
pub accepted-some : (v : Verdict) (n : ℕ) → Answer.accepted (n ∷ []) ≡ answer_to v → (c : Carried) × (v ≡ accepted c)
unfolding answer_to
accepted-some (refused m place) n e = let z : ◌≡◌ {A = ℕ} 0 1 = cc in absurd (omega arith)
accepted-some (accepted c) n e = (c, refl)
