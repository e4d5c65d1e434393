-- Laws of a packet's check: where it ends, and what holds of what an accepted packet carries.
use Prim.Native.Nat.{ℕ, zero, suc, ◌≤◌}
use mathlib.Core.Path.{◌≡◌, refl, ◌∙◌}
use mathlib.Core.Logic.{◌≢◌}
use mathlib.Core.List.{List, [], ◌∷◌, ◌++◌}
use mathlib.Core.Bool.{Bool, false}
use lib.ListN.{length, drop, length-drop}
use lib.Seq.{drop-drop}
use native.Mathlib.Omega.{arith}
use Rattle.lbp16.specs.Space.{Space, space_of}
use Rattle.lbp16.specs.Pointer.{pointer_of}
use Rattle.lbp16.specs.declared.word.Fields.{Fields}
use Rattle.lbp16.specs.declared.pointer.Pointers.{Pointers}
use Rattle.lbp16.proofs.PointerLaws.{with_pointer-other}
use Rattle.packet.specs.Step.{Kind, Step, is_info, unlocked, reply_bytes}
use Rattle.packet.specs.Rules.{Rule, first, any_step, past_end}
use Rattle.packet.specs.Command.{limit, fields_at, kind_of, command_bytes, elements, steps_at}
use Rattle.packet.specs.Command.{refusals, which_of, found, pointers_after}
use Rattle.packet.specs.Judge.{Carried, Verdict, refused, accepted, begin, found_next, carry, verdict_at, judge_from, judge}
use Rattle.packet.proofs.RuleLaws.{FirstHolds, first_holds, Rising, first-within, Lowest, first-lowest}
use Rattle.packet.proofs.StepLaws.{reply-append, any_append}
use Rattle.packet.proofs.CommandLaws.{passed, command-some, reply-of_command}
use Rattle.packet.proofs.JudgeLaws.{PassedNext}

-- the bytes that remain after the command at the front
abbrev pub behind : List ℕ → List ℕ
behind rest = drop (command_bytes (fields_at rest)) rest

-- From one command of a packet to another, past commands that all pass.
pub data Reaches : Carried → List ℕ → Carried → List ℕ → Type 0 where
  here : {c : Carried} {rest : List ℕ} → Reaches c rest c rest
  past : {c end : Carried} {rest left : List ℕ} → PassedNext c rest → Reaches (carry c rest) (behind rest) end left
      → Reaches c rest end left

-- the refusal table at a command
abbrev pub table_at : Carried → List ℕ → List Rule
table_at c rest = refusals c.pointers (unlocked false c.steps) (reply_bytes c.steps) (fields_at rest) rest

-- The check goes past commands that pass, to the packet's end or to a command that the table refuses.
pub data Ends (c : Carried) (rest : List ℕ) : Verdict → Type 0 where
  accepts : {end : Carried} → Reaches c rest end [] → Ends c rest (accepted end)
  refuses : {at : Carried} {left : List ℕ} {n : ℕ} → Reaches c rest at left → 1 ≤ length left → first (table_at at left) ≡ n
      → n ≢ 0 → Ends c rest (refused n at.place)

further : {c : Carried} {rest : List ℕ} {v : Verdict} → PassedNext c rest → Ends (carry c rest) (behind rest) v → Ends c rest v
further h (Ends.accepts r) = Ends.accepts (Reaches.past h r)
further h (Ends.refuses r l e n) = Ends.refuses (Reaches.past h r) l e n

ends-from : (fuel : ℕ) (c : Carried) (rest : List ℕ) → length rest ≤ fuel → Ends c rest (judge_from fuel c rest)
unfolding judge_from found_next found which_of
ends-from zero c [] l = Ends.accepts Reaches.here
ends-from zero c (b ∷ bs) l = absurd (omega arith)
ends-from (suc fuel) c [] l = Ends.accepts Reaches.here
ends-from (suc fuel) c (b ∷ bs) l =
    go _ (kind_of (fields_at rest)) refl
    (ends-from fuel (carry c rest) (behind rest) (rw length-drop (omega (arith, command-some (fields_at rest)))))
  where
    rest : List ℕ
    rest = b ∷ bs

    go : (n : ℕ) (k : Kind) {v : Verdict} → first (table_at c rest) ≡ n → Ends (carry c rest) (behind rest) v
        → Ends c rest (verdict_at (which_of n c.place k) v)
    go zero k e h = further (passed _ _ _ _ _ e) h
    go (suc n) k e h = Ends.refuses Reaches.here (omega arith) e (omega arith)

pub judge-ends : (p : Pointers) (packet : List ℕ) → Ends (begin p) packet (judge p packet)
unfolding judge
judge-ends p packet = ends-from (length packet) (begin p) packet (omega arith)

-- Of an accepted packet every command passes, up to the packet's end.
pub all-passed : (p : Pointers) (packet : List ℕ) (end : Carried) → judge p packet ≡ accepted end
    → Reaches (begin p) packet end []
all-passed p packet end e = go (rw e at (judge-ends p packet))
  where
    go : Ends (begin p) packet (accepted end) → Reaches (begin p) packet end []
    go (Ends.accepts r) = r

-- What each command that passes keeps is kept.
pub reaches_keeps : (P : Carried → List ℕ → Type 0)
    → ((c : Carried) (rest : List ℕ) → PassedNext c rest → P c rest → P (carry c rest) (behind rest))
    → {c end : Carried} {rest left : List ℕ} → Reaches c rest end left → P c rest → P end left
reaches_keeps P keep Reaches.here h = h
reaches_keeps P keep (Reaches.past {c = c} {rest = rest} n r) h = reaches_keeps P keep r (keep c rest n h)

-- A refusal's place is reached past commands that all pass. At the command there the number is the lowest whose condition
-- holds, one of 3 to 12.
pub record RefusedAt (p : Pointers) (packet : List ℕ) (n place : ℕ) : Type 0 where
  pub at : Carried
  pub rest : List ℕ
  pub before : Reaches (begin p) packet at rest
  pub some : 1 ≤ length rest
  pub at_place : at.place ≡ place
  pub from_place : drop place packet ≡ rest
  pub number : first (table_at at rest) ≡ n
  pub holds : FirstHolds n (table_at at rest)
  pub lowest : Lowest n (table_at at rest)
  pub in_table : (3 ≤ n) × (n ≤ 12)

-- the table's numbers rise from 3 to 12
pub table-rising : (c : Carried) (rest : List ℕ) → Rising 2 12 (table_at c rest)
unfolding refusals
table-rising c rest = omega arith

-- The place is the offset of the command's first byte.
place_of : (packet : List ℕ) {c end : Carried} {rest left : List ℕ} → Reaches c rest end left → drop c.place packet ≡ rest
    → drop end.place packet ≡ left
unfolding carry
place_of packet =
    reaches_keeps (λ c rest. drop c.place packet ≡ rest)
    (λ c rest n e. rw (← drop-drop (command_bytes (fields_at rest)) c.place packet, e))

-- A refusal is that of the earliest command that fails, and there the lowest number.
pub refused-in_table : (p : Pointers) (packet : List ℕ) (n place : ℕ) → judge p packet ≡ refused n place
    → RefusedAt p packet n place
unfolding begin
refused-in_table p packet n place e = go (rw e at (judge-ends p packet)) refl
  where
    go : {k : ℕ} → Ends (begin p) packet (refused n k) → k ≡ place → RefusedAt p packet n place
    go (Ends.refuses {at = at} {left = left} r l f h) q =
        let holds = first_holds n (table_at at left) f h in
        record {
          at = at;
          rest = left;
          before = r;
          some = l;
          at_place = q;
          from_place = rw (← q) (place_of packet r refl);
          number = f;
          holds = holds;
          lowest = first-lowest 2 12 holds (table-rising at left);
          in_table = first-within 2 12 holds (table-rising at left);
        }

-- An accepted packet's reply keeps the limit.
pub accepted-within : (p : Pointers) (packet : List ℕ) (end : Carried) → judge p packet ≡ accepted end
    → reply_bytes end.steps ≤ limit
unfolding begin reply_bytes carry
accepted-within p packet end e =
    reaches_keeps (λ c _. reply_bytes c.steps ≤ limit)
    (λ c rest n _. rw (reply-append, reply-of_command) n.answers) (all-passed p packet end e) (omega arith)

-- None of its steps is past its space's end.
pub accepted-inside : (p : Pointers) (packet : List ℕ) (end : Carried) → judge p packet ≡ accepted end
    → any_step past_end end.steps ≡ false
unfolding begin any_step carry
accepted-inside p packet end e =
    reaches_keeps (λ c _. any_step past_end c.steps ≡ false) (λ c rest n h. any_append past_end c.steps _ h n.inside)
    (all-passed p packet end e)
    refl

-- no step names the space, or its info area where `i`
abbrev pub Unnamed : Bool → Space → List Step → Type 0
Unnamed i s [] = Unit
Unnamed i s (x ∷ xs) = (is_info x.kind ≡ i → x.space ≢ s) × Unnamed i s xs

unnamed-append : (i : Bool) (s : Space) (xs ys : List Step) → Unnamed i s (xs ++ ys) → Unnamed i s xs × Unnamed i s ys
unnamed-append i s [] ys h = (tt, h)
unnamed-append i s (x ∷ xs) ys h = let k = unnamed-append i s xs ys h.1 in ((h.0, k.0), k.1)

-- a command with elements names its space or its info area
unnamed-command : (i : Bool) (s : Space) (p : Pointers) (f : Fields) (rest : List ℕ) → 1 ≤ f.count
    → Unnamed i s (steps_at p f rest) → is_info (kind_of f) ≡ i → space_of f.space ≢ s
unfolding steps_at elements
unnamed-command i s p f rest = go f.count _ _ _
  where
    go : (n a d : ℕ) (bytes : List ℕ) → 1 ≤ n → Unnamed i s (elements (kind_of f) (space_of f.space) n a d bytes)
        → is_info (kind_of f) ≡ i → space_of f.space ≢ s
    go zero a d bytes l h = absurd (omega arith)
    go (suc n) a d bytes l h = h.0

-- A space that no plain command of an accepted packet names keeps its pointer, and one that no info read names keeps that of
-- its info area. So info reads move no plain pointer, and plain commands no info pointer.
pub other-pointers : (p : Pointers) (packet : List ℕ) (end : Carried) → judge p packet ≡ accepted end
    → (i : Bool) (s : Space) → Unnamed i s end.steps → pointer_of end.pointers i s ≡ pointer_of p i s
unfolding begin carry pointers_after
other-pointers p packet end e i s =
    reaches_keeps (λ c _. Unnamed i s c.steps → pointer_of c.pointers i s ≡ pointer_of p i s)
    (λ c rest n h u.
    let (old, new) = unnamed-append i s c.steps _ u in
    with_pointer-other c.pointers _ i _ s _ (unnamed-command i s _ _ rest n.some new) ∙ h old)
    (all-passed p packet end e)
    (λ _. refl)
