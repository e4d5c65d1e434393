-- A proposal's packets, taken one after the other beside the list.
use Prim.Native.Nat.{ℕ, zero, suc, ◌+◌, ◌-◌, ◌≤◌}
use mathlib.Core.Path.{◌≡◌, refl, sym, ap, ◌∙◌}
use mathlib.Core.List.{List, [], ◌++◌, append_assoc, append-nil}
use mathlib.Core.Bool.{Bool, true, false, cond}
use native.Mathlib.Omega.{arith}
use native.Mathlib.Nat.{le_refl, zero-add}
use lib.Dec.{eqb, ltb}
use lib.ListN.{length, take, drop, length-drop}
use borrow.Author.Tests.{eqb-true}
use Rattle.packet.specs.Step.{Step}
use Rattle.packet.specs.Bytes.{number}
use Rattle.packet.proofs.SliceLaws.{tail-whole}
use Rattle.cue.specs.Records.{records, records_of}
use Rattle.cue.specs.Output.{frame_mark, Apart, unsound, frames, with_frame, Front, front_of, length_at, bytes_in_frame, behind_frame}
use Rattle.cue.specs.Output.{with_front, apart_from, apart, frame_listed}
use Rattle.cue.specs.declared.frame.Frame.{Frame}
use Rattle.cue.proofs.FrameLaws.{front-end, whole-frame}
use Rattle.tight.specs.Tight.{Doing, none, steps, both, packet_does, packets_do}
use Rattle.tight.specs.Tight.{Checked, accepted, rejected, steps_checked, frames_checked}
use Rattle.tight.specs.Inside.{further, steps_take, doing_takes, packet_takes}
use Rattle.tight.specs.Inside
use Rattle.std.proofs.Common.{Option, Some, None}
use Rattle.tight.proofs.TakeLaws.{append-rejected, append-taken, steps-within}
use Rattle.tight.proofs.ListLaws.{takes_all, steps-taken}

-- n packets have done the steps ss; these frames follow
unfoldable checked_from : List Step → ℕ → Apart → List Step → Checked
checked_from ss n unsound xs = rejected
checked_from ss n (frames ps) xs = steps_checked (both (steps ss) (packets_do ps)) xs (n + length ps)

both_first : (d : Doing) → both (steps []) d ≡ d
unfolding both
both_first none = refl
both_first (steps ts) = refl

from_first : (a : Apart) (xs : List Step) → frames_checked a xs ≡ checked_from [] 0 a xs
unfolding frames_checked checked_from
from_first unsound xs = refl
from_first (frames ps) xs = rw (both_first (packets_do ps), zero-add) refl

-- The frames behind a packet, and a packet that is not accepted.
both-next : (ss ts : List Step) (d : Doing) → both (steps ss) (both (steps ts) d) ≡ both (steps (ss ++ ts)) d
unfolding both
both-next ss ts none = refl
both-next ss ts (steps us) = ap steps (sym (append_assoc ss ts us))

from_next : (ss ts : List Step) (n : ℕ) (p : List ℕ) (a : Apart) (xs : List Step) → packet_does p ≡ steps ts
    → checked_from ss n (with_frame p a) xs ≡ checked_from (ss ++ ts) (n + 1) a xs
unfolding checked_from with_frame packets_do
from_next ss ts n p unsound xs e = refl
from_next ss ts n p (frames ps) xs e =
    let q : n + suc (length ps) ≡ n + 1 + length ps = omega arith in
    rw (e, both-next, q) refl

from-none : (ss : List Step) (n : ℕ) (p : List ℕ) (a : Apart) (xs : List Step) → packet_does p ≡ none
    → checked_from ss n (with_frame p a) xs ≡ rejected
unfolding checked_from with_frame packets_do both steps_checked
from-none ss n p unsound xs e = refl
from-none ss n p (frames ps) xs e = rw e

-- Once the steps are rejected, so is the proposal, whatever follows.
module _ (list : List ℕ) (xs : List Step) (l : records_of list ≡ records xs) where
  from-rejected : (ss : List Step) (n : ℕ) (a : Apart) → steps_take ss list ≡ None → checked_from ss n a xs ≡ rejected
  unfolding checked_from both steps_checked takes_all
  from-rejected ss n unsound e = refl
  from-rejected ss n (frames ps) e = go (packets_do ps)
    where
      go : (d : Doing) → steps_checked (both (steps ss) d) xs (n + length ps) ≡ rejected
      go none = refl
      go (steps ts) = rw (steps-taken list xs l (ss ++ ts), append-rejected ss ts list e)

  from_last : (ss : List Step) (n taken : ℕ) → steps_take ss list ≡ Some taken
      → checked_from ss n (frames []) xs ≡ cond (eqb taken (length list)) (accepted n) rejected
  unfolding checked_from both packets_do steps_checked takes_all
  from_last ss n taken e =
      let q : n + 0 ≡ n = omega arith in
      rw (append-nil ss, steps-taken list xs l ss, e, q) refl

end-length : (rest : List ℕ) → Front.end ≡ front_of rest → length rest ≡ 0
unfolding front_of
end-length rest e =
    go (eqb (length rest) 0) (ltb (length rest) 2) (eqb (number (take 2 rest)) frame_mark) (ltb (length rest) (4 + length_at rest))
    refl
    e
  where
    go : (a b c d : Bool) → eqb (length rest) 0 ≡ a
        → Front.end ≡ cond a Front.end (cond b Front.cut (cond c (cond d Front.cut (Front.frame (length_at rest))) Front.unmarked))
        → length rest ≡ 0
    go true b c d q f = eqb-true _ _ q
    go false true c d q f = let z : ◌≡◌ {A = ℕ} 0 1 = cc in absurd (omega arith)
    go false false false d q f = let z : ◌≡◌ {A = ℕ} 0 1 = cc in absurd (omega arith)
    go false false true true q f = let z : ◌≡◌ {A = ℕ} 0 1 = cc in absurd (omega arith)
    go false false true false q f = let z : ◌≡◌ {A = ℕ} 0 1 = cc in absurd (omega arith)

apart-end : (fuel : ℕ) (rest : List ℕ) → length rest ≡ 0 → apart_from fuel rest ≡ frames []
unfolding apart_from with_front
apart-end zero rest e = refl
apart-end (suc fuel) rest e = rw (← front-end rest e)

apart-unsound : (fuel : ℕ) (rest : List ℕ) (f : Front) → (length rest ≡ 0 → ⊥) → f ≡ front_of rest
    → Inside.frame_takes f ≡ None → apart_from (suc fuel) rest ≡ unsound
unfolding apart_from with_front Inside.frame_takes
apart-unsound fuel rest Front.end h e p = absurd (h (end-length rest e))
apart-unsound fuel rest Front.cut h e p = rw (← e)
apart-unsound fuel rest Front.unmarked h e p = rw (← e)
apart-unsound fuel rest (Front.frame n) h e p = let z : ◌≡◌ {A = ℕ} 0 1 = cc in absurd (omega arith)

-- what the code finds at the front
pub frame-listed : (p q : Frame) (f : Front) → frame_listed p ≡ f → p ≡ q → Inside.frame_takes (frame_listed q) ≡ Inside.frame_takes f
frame-listed p q f e r = ap Inside.frame_takes (ap frame_listed (sym r) ∙ e)

front-frame : (f : Front) (n : ℕ) → Inside.frame_takes f ≡ Some n → Front.frame n ≡ f
unfolding Inside.frame_takes
front-frame Front.end n e = let z : ◌≡◌ {A = ℕ} 0 1 = cc in absurd (omega arith)
front-frame Front.cut n e = let z : ◌≡◌ {A = ℕ} 0 1 = cc in absurd (omega arith)
front-frame Front.unmarked n e = let z : ◌≡◌ {A = ℕ} 0 1 = cc in absurd (omega arith)
front-frame (Front.frame m) n e = let z : m ≡ n = cc in ap Front.frame (sym z)

module _ (rest : List ℕ) (n : ℕ) (e : Front.frame n ≡ front_of rest) where
  apart-frame : (fuel : ℕ) → apart_from (suc fuel) rest ≡ with_frame (bytes_in_frame n rest) (apart_from fuel (behind_frame n rest))
  unfolding apart_from with_front
  apart-frame fuel = rw (← e, (whole-frame rest n e).length-is) refl

-- Between two packets of a proposal: those before have done the steps ss, and taken so many bytes.
pub record Parting (list proposal rest : List ℕ) (taken packets : ℕ) : Type 0 where
  ss : List Step
  fuel : ℕ
  same : (xs : List Step) → frames_checked (apart proposal) xs ≡ checked_from ss packets (apart_from fuel rest) xs
  enough : length rest ≤ fuel
  taken_is : steps_take ss list ≡ Some taken
  pub few : packets + length rest ≤ length proposal

pub parting_first : (list proposal : List ℕ) → Parting list proposal proposal 0 0
unfolding apart steps_take
parting_first list proposal =
    record {
      ss = [];
      fuel = length proposal;
      same = from_first (apart proposal);
      enough = le_refl _;
      taken_is = refl;
      few = omega arith;
    }

module _ {list proposal rest : List ℕ} {taken packets : ℕ} (s : Parting list proposal rest taken packets) where
  pub taken-within : taken ≤ length list
  taken-within = steps-within _ list taken s.taken_is

  some-fuel : (length rest ≡ 0 → ⊥) → (k : ℕ) × (s.fuel ≡ suc k)
  some-fuel h = go s.fuel s.enough
    where
      go : (n : ℕ) → length rest ≤ n → (k : ℕ) × (n ≡ suc k)
      go zero l = absurd (h (omega arith))
      go (suc k) l = (k, refl)

  pub parting_last : length rest ≡ 0 → (xs : List Step) → records_of list ≡ records xs
      → frames_checked (apart proposal) xs ≡ cond (eqb taken (length list)) (accepted packets) rejected
  parting_last e xs l =
      s.same xs
      ∙ ap (λ a. checked_from s.ss packets a xs) (apart-end s.fuel rest e)
      ∙ from_last list xs l s.ss packets taken s.taken_is

  module _ (some : length rest ≡ 0 → ⊥) where
    module _ (frame : Option ℕ) (b : frame ≡ Inside.frame_takes (front_of rest)) where
      pub parting_unsound : frame ≡ None → (xs : List Step) → rejected ≡ frames_checked (apart proposal) xs
      unfolding checked_from
      parting_unsound p xs =
          let (k, q) = some-fuel some in
          sym (s.same xs ∙ rw (q, apart-unsound k rest _ some refl (sym b ∙ p)) refl)

      pub front-is : (n : ℕ) → frame ≡ Some n → Front.frame n ≡ front_of rest
      front-is n p = front-frame (front_of rest) n (sym b ∙ p)

    -- a whole frame of n bytes, and what its packet takes
    module _ (n : ℕ) (e : Front.frame n ≡ front_of rest) where
      pub frame-within : 4 + n ≤ length rest
      frame-within = (whole-frame rest n e).within

      module _ (next : Option ℕ)
          (q : next ≡ packet_takes (take (4 + n - 4) (drop 4 rest)) (take (length list - taken) (drop taken list))) where
        takes : doing_takes (packet_does (bytes_in_frame n rest)) (drop taken list) ≡ next
        unfolding packet_takes bytes_in_frame
        takes = let z : 4 + n - 4 ≡ n = omega arith in sym (q ∙ rw (z, tail-whole) refl)

        checked-here : (k : ℕ) → s.fuel ≡ suc k → (xs : List Step)
            → frames_checked (apart proposal) xs
            ≡ checked_from s.ss packets (with_frame (bytes_in_frame n rest) (apart_from k (behind_frame n rest))) xs
        checked-here k f xs = s.same xs ∙ rw (f, apart-frame rest n e k) refl

        pub parting_rejected : next ≡ None → (xs : List Step) → records_of list ≡ records xs
            → rejected ≡ frames_checked (apart proposal) xs
        unfolding doing_takes further
        parting_rejected r xs l =
            let (k, f) = some-fuel some in
            sym (checked-here k f xs ∙ go (apart_from k (behind_frame n rest)) (packet_does (bytes_in_frame n rest)) refl (takes ∙ r))
          where
            go : (a : Apart) (d : Doing) → packet_does (bytes_in_frame n rest) ≡ d → doing_takes d (drop taken list) ≡ None
                → checked_from s.ss packets (with_frame (bytes_in_frame n rest) a) xs ≡ rejected
            go a none p t = from-none s.ss packets (bytes_in_frame n rest) a xs p
            go a (steps ts) p t =
                from_next s.ss ts packets (bytes_in_frame n rest) a xs p
                ∙ from-rejected list xs l (s.ss ++ ts) (packets + 1) a
                (append-taken s.ss ts list taken s.taken_is ∙ ap (further taken) t)

        pub parting_next : (j : ℕ) → next ≡ Some j
            → Parting list proposal (take (length rest - (4 + n)) (drop (4 + n) rest)) (taken + j) (packets + 1)
        unfolding doing_takes further behind_frame
        parting_next j r = rw tail-whole (go (packet_does (bytes_in_frame n rest)) refl (takes ∙ r))
          where
            go : (d : Doing) → packet_does (bytes_in_frame n rest) ≡ d → doing_takes d (drop taken list) ≡ Some j
                → Parting list proposal (drop (4 + n) rest) (taken + j) (packets + 1)
            go none p t = let z : ◌≡◌ {A = ℕ} 0 1 = cc in absurd (omega arith)
            go (steps ts) p t =
                let w = frame-within in
                let (k, f) = some-fuel some in
                record {
                  ss = s.ss ++ ts;
                  fuel = k;
                  same = λ xs. checked-here k f xs
                      ∙ from_next s.ss ts packets (bytes_in_frame n rest) (apart_from k (behind_frame n rest)) xs p;
                  enough = rw length-drop (omega (arith, s.enough));
                  taken_is = append-taken s.ss ts list taken s.taken_is ∙ ap (further taken) t;
                  few = rw length-drop (omega (arith, s.few));
                }
