-- Laws of what is written for a part: a call as the code makes it, and the calls one after the other.
use Prim.Native.Nat.{ℕ, zero, suc, ◌+◌, ◌-◌, ◌*◌, ◌^◌, min, ◌≤◌, ◌<◌}
use mathlib.Core.Path.{◌≡◌, refl, sym, ap, ◌∙◌}
use mathlib.Core.List.{List, [], ◌∷◌}
use mathlib.Core.Bool.{Bool, true, false, cond, ◌||◌}
use Rattle.std.specs.Prelude.{Option, Some, None, IfSome, Result, Ok, Err}
use native.Mathlib.Omega.{arith}
use lib.ListN.{length, take, drop, replicate, length-drop, length-take}
use lib.Dec.{eqb}
use borrow.Author.Tests.{eqb-false}
use Rattle.lbp16.specs.Answer.{rule_number}
use Rattle.lbp16.proofs.RuleLaws.{rule_number_range}
use Rattle.lbp16.specs.declared.Refusal.{Refusal}
use Rattle.packet.specs.Verdict.{verdict_listed}
use Rattle.packet.proofs.SliceLaws.{tail-whole}
use Rattle.cue.specs.Output.{frame_room}
use Rattle.parts.specs.Parts.{PartCall, part_of, part_left}
use Rattle.text.specs.Room.{Filled, filled, put_at}
use Rattle.text.specs.Line.{refused_line}
use Rattle.text.proofs.RoomLaws.{put_rest, put-none, put-within}
use Rattle.text.proofs.LineLaws.{refused-length}
use Rattle.cuec_output.specs.Report.{bytes_of_answer}
use Rattle.cuepipe_output.specs.Feed.{called_on, said_of, is_refused, stops, fed, fed_by, fed_from, fed_of, FedLeft, fed_left, left_by}
use Rattle.cuepipe_output.specs.Inside.{CallLeft, call_of, call_left}
use Rattle.cuepipe_output.specs.declared.Called.{Called}

calls_alike : {f g : Filled} {n m : Option ℕ} {x y : List ℕ} → f ≡ g → n ≡ m → x ≡ y
    → ◌≡◌ {A = CallLeft} (record { filled = f; taken = n; state = x }) (record { filled = g; taken = m; state = y })
calls_alike a b c = λ i. record { filled = a i; taken = b i; state = c i }

left-alike : {f g : Filled} {s t : Bool} {x y : List ℕ} → f ≡ g → s ≡ t → x ≡ y
    → ◌≡◌ {A = FedLeft} (record { filled = f; more = s; state = x }) (record { filled = g; more = t; state = y })
left-alike a b c = λ i. record { filled = a i; more = b i; state = c i }

-- behind a text the place is no further than the text is long
put-reach : (text room : List ℕ) (at : ℕ) {n : ℕ} {room₁ : List ℕ} → filled n room₁ ≡ put_at text at room → n ≤ at + length text
unfolding put_at
put-reach text room at {n} {room₁} e =
    let a : n ≡ min (at + length text) (length room) = ap (λ (x : Filled). x.next) e in
    omega arith

-- A call of the compiler: `a` is its answer, `n` the bytes taken, `packet` what it left in its room.
module _ (state part : List ℕ) (last : Bool) (zeros : List ℕ) (a : Result ℕ Refusal) (n : ℕ) (state₂ packet : List ℕ)
    (z : zeros ≡ replicate frame_room 0) (e : part_left a n state₂ packet ≡ part_of state part last zeros) where
  same : part_left a n state₂ packet ≡ called_on state part last
  unfolding called_on
  same = e ∙ rw z refl

  took : n ≡ (called_on state part last).taken
  unfolding part_left
  took = ap (λ (c : PartCall). c.taken) same

  left : state₂ ≡ (called_on state part last).state
  unfolding part_left
  left = ap (λ (c : PartCall). c.state) same

  module _ (at next : ℕ) (out out₂ : List ℕ) where
    pub packet-said : (m : ℕ) (k : Option ℕ) → a ≡ Ok m → filled next out₂ ≡ put_at (take m packet) at out
        → k ≡ cond (eqb n 0) None (Some n) → call_left (record { next = next; taken = k }) state₂ out₂ ≡ call_of state part last at out
    unfolding call_of said_of stops is_refused bytes_of_answer part_left verdict_listed
    packet-said m k d p f =
        let said : take m packet ≡ said_of (called_on state part last) = rw (← same, d) refl in
        let stop : eqb n 0 ≡ stops (called_on state part last) = rw (← same, d) refl in
        calls_alike (p ∙ ap (λ (t : List ℕ). put_at t at out) said) (f ∙ rw (stop, took) refl) left

    -- no more than a packet behind its mark and length
    pub packet-short : (m : ℕ) → a ≡ Ok m → filled next out₂ ≡ put_at (take m packet) at out
        → length packet ≡ frame_room → next ≤ at + 1476
    packet-short m d p size =
        let l : length (take m packet) ≤ 1476 = rw length-take (omega arith) in
        omega (arith, put-reach (take m packet) out at p)

    pub refusal-said : (r : Refusal) (number : ℕ) → number ≡ rule_number r.rule → a ≡ Err r
        → filled next out₂ ≡ put_at (refused_line number r.place) at out
        → call_left (record { next = next; taken = None }) state₂ out₂ ≡ call_of state part last at out
    unfolding call_of said_of stops is_refused bytes_of_answer part_left verdict_listed
    refusal-said r number f d p =
        let said : refused_line number r.place ≡ said_of (called_on state part last) = rw (← same, d, f) refl in
        let stop : true ≡ stops (called_on state part last) = rw (← same, d) refl in
        calls_alike (p ∙ ap (λ (t : List ℕ). put_at t at out) said) (rw (← stop) refl) left

-- and a line is shorter
pub refusal-short : (r : Refusal) (number at next : ℕ) (out out₂ : List ℕ) → number ≡ rule_number r.rule → r.place < 2 ^ 64
    → filled next out₂ ≡ put_at (refused_line number r.place) at out → next ≤ at + 1476
refusal-short r number at next out out₂ e k p =
    let range = rule_number_range r.rule in
    omega (arith, put-reach (refused_line number r.place) out at p, refused-length number r.place (omega (arith, range.1)) k)

-- no more is taken than there is
pub some-within : (n most : ℕ) {k : Option ℕ} → k ≡ cond (eqb n 0) None (Some n) → n ≤ most → IfSome k (λ m. m ≤ most)
some-within n most e h = rw e (go (eqb n 0))
  where
    go : (t : Bool) → IfSome (cond t None (Some n)) (λ m. m ≤ most)
    go true = tt
    go false = h

pub within-some : {k : Option ℕ} {m most : ℕ} → IfSome k (λ n. n ≤ most) → k ≡ Some m → m ≤ most
within-some h e = rw e at h

fed-step : (fuel : ℕ) (state rest : List ℕ) → 0 < length rest
    → fed_from (suc fuel) state rest
    ≡ fed_by (stops (called_on state rest false)) (called_on state rest false)
    (fed_from fuel (called_on state rest false).state (drop (called_on state rest false).taken rest))
unfolding fed_from
fed-step fuel state [] h = absurd (omega arith)
fed-step fuel state (b ∷ bs) h = refl

fed-end : (fuel : ℕ) (state rest : List ℕ) → length rest ≤ 0 → fed_from fuel state rest ≡ fed [] true state
unfolding fed_from
fed-end zero state rest h = refl
fed-end (suc fuel) state [] h = refl
fed-end (suc fuel) state (b ∷ bs) h = absurd (omega arith)

-- A call on what is left of the part.
module _ (state rest : List ℕ) (next : ℕ) (out : List ℕ) (c : Called) (state₂ out₂ : List ℕ)
    (e : call_left c state₂ out₂ ≡ call_of state rest false next out) where
  put : filled c.next out₂ ≡ put_at (said_of (called_on state rest false)) next out
  unfolding call_of
  put = ap (λ (x : CallLeft). x.filled) e

  took-is : c.taken ≡ cond (stops (called_on state rest false)) None (Some (called_on state rest false).taken)
  unfolding call_of
  took-is = ap (λ (x : CallLeft). x.taken) e

  stops-is : c.taken ≡ None → stops (called_on state rest false) ≡ true
  stops-is z = go (stops (called_on state rest false)) (sym z ∙ took-is)
    where
      go : (t : Bool) → ◌≡◌ {A = Option ℕ} None (cond t None (Some (called_on state rest false).taken)) → t ≡ true
      go true q = refl
      go false q = absurd cc

  goes-is : (k : ℕ) → c.taken ≡ Some k → (stops (called_on state rest false) ≡ false) × (k ≡ (called_on state rest false).taken)
  goes-is k z = go (stops (called_on state rest false)) (sym z ∙ took-is)
    where
      go : (t : Bool) → ◌≡◌ {A = Option ℕ} (Some k) (cond t None (Some (called_on state rest false).taken))
          → (t ≡ false) × (k ≡ (called_on state rest false).taken)
      go true q = absurd cc
      go false q = (refl, cc)

  state-is : state₂ ≡ (called_on state rest false).state
  unfolding call_of
  state-is = ap (λ (x : CallLeft). x.state) e

  -- one that stops is the last
  call-stops : (fuel : ℕ) → 0 < length rest → c.taken ≡ None
      → left_by c.next false state₂ out₂ ≡ fed_left (fed_from (suc fuel) state rest) next out
  unfolding fed_left fed_by
  call-stops fuel h z = rw (fed-step fuel state rest h, stops-is z) (left-alike put refl state-is)

  -- what comes of the others stands behind what it wrote
  call-goes : (fuel k : ℕ) → 0 < length rest → c.taken ≡ Some k
      → fed_left (fed_from fuel state₂ (drop k rest)) c.next out₂ ≡ fed_left (fed_from (suc fuel) state rest) next out
  unfolding fed_left fed_by
  call-goes fuel k h z =
      let g = goes-is k z in
      let later : fed_from fuel state₂ (drop k rest)
      ≡ fed_from fuel (called_on state rest false).state (drop (called_on state rest false).taken rest) =
      rw (state-is, g.1) refl in
      rw (later, fed-step fuel state rest h, g.0) (left-alike (put_rest _ _ _ _ put) refl refl)

  -- and it took something
  pub goes-taken : (k : ℕ) → c.taken ≡ Some k → 1 ≤ k
  unfolding stops
  goes-taken k z = go (is_refused (called_on state rest false).answer) (goes-is k z).0
    where
      go : (t : Bool) → (t || eqb (called_on state rest false).taken 0) ≡ false → 1 ≤ k
      go true q = absurd cc
      go false q =
          let w : (called_on state rest false).taken ≡ 0 → ⊥ = eqb-false _ _ q in
          omega (arith, (goes-is k z).1, w)

-- What holds before a call: what comes of the rest is what comes of the part, and each byte taken wrote at most one packet.
pub record Feeding (state₀ part out₀ state rest out : List ℕ) (next : ℕ) : Type 0 where
  pub fuel : ℕ
  pub enough : length rest ≤ fuel
  pub same : fed_left (fed_from fuel state rest) next out ≡ fed_left (fed_from (length part) state₀ part) 0 out₀
  pub within : next ≤ length out
  pub lent : length out ≡ length out₀
  pub less : length rest ≤ length part
  pub bound : next + 1476 * length rest ≤ 1476 * length part

pub feeding_first : (state part out : List ℕ) → Feeding state part out state part out 0
feeding_first state part out =
    record {
      fuel = length part;
      enough = omega arith;
      same = refl;
      within = omega arith;
      lent = refl;
      less = omega arith;
      bound = omega arith;
    }

pub feeding_last : {state₀ part out₀ state rest out : List ℕ} {next : ℕ} → Feeding state₀ part out₀ state rest out next
    → length rest ≤ 0 → left_by next true state out ≡ fed_left (fed_from (length part) state₀ part) 0 out₀
unfolding fed_left
feeding_last {state₀} {part} {out₀} {state} {rest} {out} {next} f h =
    left-alike (put-none out next f.within) refl refl ∙ rw (fed-end f.fuel state rest h) at f.same

module _ {state₀ part out₀ state rest out : List ℕ} {next : ℕ} (f : Feeding state₀ part out₀ state rest out next)
    (some : 0 < length rest) (c : Called) (state₂ out₂ : List ℕ) (e : call_left c state₂ out₂ ≡ call_of state rest false next out) where
  pub feeding_stops : c.taken ≡ None
      → left_by c.next false state₂ out₂ ≡ fed_left (fed_from (length part) state₀ part) 0 out₀
  feeding_stops z = go f.fuel f.enough f.same
    where
      go : (k : ℕ) → length rest ≤ k → fed_left (fed_from k state rest) next out ≡ fed_left (fed_from (length part) state₀ part) 0 out₀
          → left_by c.next false state₂ out₂ ≡ fed_left (fed_from (length part) state₀ part) 0 out₀
      go zero h s = absurd (omega arith)
      go (suc k) h s = call-stops state rest next out c state₂ out₂ e k some z ∙ s

  pub feeding_bound : c.next ≤ next + 1476 → c.next ≤ 1476 * length part
  feeding_bound b = omega (arith, f.bound)

  pub feeding_next : (n : ℕ) → c.taken ≡ Some n → n ≤ length rest → c.next ≤ next + 1476 → (rest₂ : List ℕ)
      → rest₂ ≡ take (length rest - n) (drop n rest) → Feeding state₀ part out₀ state₂ rest₂ out₂ c.next
  feeding_next n z t b rest₂ q₂ = go f.fuel f.enough f.same
    where
      w : (c.next ≤ length out₂) × (length out₂ ≡ length out)
      w = put-within _ _ _ (put state rest next out c state₂ out₂ e)

      q : rest₂ ≡ drop n rest
      q = q₂ ∙ tail-whole n rest

      one : 1 ≤ n
      one = goes-taken state rest next out c state₂ out₂ e n z

      size : length rest₂ ≡ length rest - n
      size = rw (q, length-drop) refl

      go : (k : ℕ) → length rest ≤ k → fed_left (fed_from k state rest) next out ≡ fed_left (fed_from (length part) state₀ part) 0 out₀
          → Feeding state₀ part out₀ state₂ rest₂ out₂ c.next
      go zero h s = absurd (omega arith)
      go (suc k) h s =
          record {
            fuel = k;
            enough = omega (arith, one, size);
            same = rw q (call-goes state rest next out c state₂ out₂ e k n some z ∙ s);
            within = w.0;
            lent = w.1 ∙ f.lent;
            less = omega (arith, size, f.less);
            bound = omega (arith, one, size, f.bound);
          }

-- the list's end, and a part of some bytes
pub fed-last : (state part : List ℕ) (out : List ℕ) (c : Called) (state₂ out₂ : List ℕ) → length part ≡ 0
    → call_left c state₂ out₂ ≡ call_of state part true 0 out → left_by c.next false state₂ out₂ ≡ fed_left (fed_of state part) 0 out
unfolding fed_of fed_left call_of
fed-last state [] out c state₂ out₂ h e = left-alike (ap (λ (x : CallLeft). x.filled) e) refl (ap (λ (x : CallLeft). x.state) e)
fed-last state (b ∷ bs) out c state₂ out₂ h e = absurd (omega arith)

pub fed-some : (state part : List ℕ) → 0 < length part → fed_of state part ≡ fed_from (length part) state part
unfolding fed_of
fed-some state [] h = absurd (omega arith)
fed-some state (b ∷ bs) h = refl
