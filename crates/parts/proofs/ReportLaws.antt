-- Calls that are given all bytes not yet taken, with the end said, report a bad list.
use Prim.Native.Nat.{ℕ, zero, suc, ◌+◌, ◌≤◌, ◌<◌}
use mathlib.Core.Path.{◌≡◌, refl, sym, ap, ◌∙◌}
use mathlib.Core.Logic.{◌⊎◌, inl, inr}
use mathlib.Core.List.{List, [], ◌∷◌, ◌++◌, append-nil}
use mathlib.Core.Bool.{true}
use native.Mathlib.Omega.{arith}
use lib.ListN.{length, drop, length-append}
use lib.Seq.{drop-drop}
use Rattle.cue.specs.Records.{refused, records_of}
use Rattle.cue.specs.Packing.{Command}
use Rattle.cue.specs.Output.{output_of}
use Rattle.cue.specs.Compile.{bytes_of_output}
use Rattle.parts.specs.Taking.{State}
use Rattle.parts.specs.Rule.{Opened}
use Rattle.cue.specs.Output.{frame_room}
use Rattle.parts.specs.Parts.{PartCall, part_of}
use Rattle.parts.specs.Promise.{bytes_written, written, Continues, rule_after, Calls, Fails, Writes, answer_behind, Reports}
use Rattle.parts.proofs.EndLaws.{output-more}
use Rattle.parts.proofs.FollowLaws.{Placed, placed, calls_follow, fails, written-size}

-- with more of a list's output out, fewer of its packets are still to come
fewer-later : (css later css₂ later₂ : List (List Command)) → css ++ later ≡ css₂ ++ later₂
    → length (bytes_of_output css) < length (bytes_of_output css₂) → length later₂ < length later
unfolding bytes_of_output output_of
fewer-later [] later [] later₂ e h = absurd (omega arith)
fewer-later [] later (cs₂ ∷ css₂) later₂ e h =
    let n : length later ≡ length (cs₂ ∷ css₂) + length later₂ = ap length e ∙ length-append (cs₂ ∷ css₂) later₂ in
    omega arith
fewer-later (cs ∷ css) later [] later₂ e h = absurd (omega arith)
fewer-later (cs ∷ css) later (cs₂ ∷ css₂) later₂ e h =
    let c : cs ≡ cs₂ = cc in
    let a = output-more cs css in
    let b = rw (← c) at (output-more cs₂ css₂) in
    let k = rw (← c) at h in
    fewer-later css later css₂ later₂ (cc) (omega arith)

-- One call more.
module _ (list : List ℕ) (m i : ℕ) (e : records_of list ≡ refused m i) where
  module _ {at : ℕ} {state out : List ℕ} {s : State Opened} (calls : Calls list at state out s) (p : Placed list out)
      (rooms : ℕ → List ℕ) (wide : (j : ℕ) → frame_room ≤ length (rooms j)) where
    abbrev c : PartCall
    c = part_of state (drop at list) true (rooms 0)

    all_left : Continues list at (drop at list) true
    all_left = record { rest = []; follows = sym (append-nil (drop at list)); whole = λ _. refl }

    next_calls : Calls list (at + c.taken) c.state (out ++ written c) (rule_after s (drop at list) true (rooms 0))
    next_calls = Calls.more (drop at list) true (rooms 0) calls all_left

    next-placed : Placed list (out ++ written c)
    next-placed = placed (calls_follow next_calls)

    step : (length next-placed.later < length p.later
        → Reports c.state (drop (at + c.taken) list) (λ j. rooms (suc j)) (length next-placed.later) m i)
        → Reports state (drop at list) rooms (length p.later) m i
    unfolding answer_behind bytes_written
    step more = go (fails list at state out s (calls_follow calls) (drop at list) true (rooms 0) all_left (wide 0) m i e)
      where
        q : Placed list (out ++ written c)
        q = next-placed

        go : Fails list state out (drop at list) true (rooms 0) m i ⊎ Writes state (drop at list) true (rooms 0)
            → Reports state (drop at list) rooms (length p.later) m i
        go (inl f) = record { others = 0; few = omega arith; answer = f.answer }
        go (inr w) =
            let b : bytes_written c.answer ≡ w.bytes = rw w.answer refl in
            let n : length (written c) ≡ w.bytes =
            written-size state (drop at list) true (rooms 0) (calls_follow calls).fine (wide 0) ∙ b in
            let l : length (bytes_of_output p.packets) < length (bytes_of_output q.packets) =
            rw (← p.bytes, ← q.bytes, length-append, n) (omega (arith, w.some refl)) in
            let k = fewer-later p.packets p.later q.packets q.later (sym p.front ∙ q.front) l in
            let r = more k in
            record {
              others = suc r.others;
              few = omega (arith, r.few);
              answer = rw (drop-drop c.taken at list) r.answer;
            }

  -- After at most as many calls as packets are still to come, and one.
  pub reports : (fuel : ℕ) {at : ℕ} {state out : List ℕ} {s : State Opened} (calls : Calls list at state out s)
      (p : Placed list out) → length p.later ≤ fuel → (rooms : ℕ → List ℕ) (wide : (j : ℕ) → frame_room ≤ length (rooms j))
      → Reports state (drop at list) rooms (length p.later) m i
  reports zero calls p h rooms wide = step calls p rooms wide (λ k. absurd (omega arith))
  reports (suc fuel) calls p h rooms wide =
      step calls p rooms wide
      (λ k. reports fuel (next_calls calls p rooms wide) (next-placed calls p rooms wide) (omega arith) (λ j. rooms (suc j))
      (λ j. wide (suc j)))
