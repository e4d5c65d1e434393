-- A burst with a guard.
use Prim.Native.Nat.{ℕ, zero, suc, ◌+◌, ◌*◌, ◌≤◌, ◌<◌}
use mathlib.Core.Path.{◌≡◌, refl, sym, ap, ◌∙◌}
use mathlib.Core.List.{List, [], ◌∷◌, ◌++◌}
use mathlib.Core.Bool.{Bool, true, false, not, ◌||◌, cond}
use native.Mathlib.Omega.{arith}
use native.Mathlib.Nat.{zero-add}
use Rattle.std.proofs.Common.{Err}
use Rattle.lbp16.specs.declared.Rule.{Rule as TableRule}
use Rattle.lbp16.proofs.RuleLaws.{rule_number_range}
use lib.Dec.{eqb, eqb-suc-zero}
use lib.ListN.{length, drop, get_or}
use borrow.Author.Tests.{ne_eqb, not-false}
use Rattle.lbp16.specs.Answer.{Answer, rule_number}
use Rattle.lbp16.specs.Space.{Space, registers, row}
use Rattle.lbp16.specs.declared.Refusal.{Refusal}
use Rattle.lbp16.proofs.BoolLaws.{or_false}
use Rattle.packet.specs.Step.{Kind, Step, carried, is_write, store_after, values_read}
use Rattle.packet.specs.Rules.{Rule, first, any_step}
use Rattle.packet.specs.Command.{pick_kind, payload, elements}
use Rattle.packet.proofs.RuleLaws.{Numbered}
use Rattle.spi.specs.Spi.{Burst, header_of, first_word, bytes_of_words, burst_kind, burst_steps, came, burst_refusals, burst_outcome, burst_words, run_burst}
use Rattle.packet.specs.Verdict.{verdict_listed}
use Rattle.spi.specs.Spi.{write_command, burst_left, most_in_burst}
use Rattle.spi.specs.declared.Header.{Header}
use Rattle.spi.proofs.SpiLaws.{sound}
use Rattle.interlock.specs.Guard.{soundness, touches, writes_protected, protected}
use Rattle.interlock.specs.Guarded.{promised, guarded_refusals, burst_by, guarded_burst}
use Rattle.interlock.proofs.BlockLaws.{read-elements, block}

-- a rule behind all others
first-behind : (rs : List Rule) (r : Rule) → Numbered rs
    → first (rs ++ (r ∷ [])) ≡ cond (eqb (first rs) 0) (cond r.holds r.number 0) (first rs)
unfolding first
first-behind [] r n = refl
first-behind (q ∷ rs) r n = go q.holds (first-behind rs r n.1)
  where
    some : 1 ≤ q.number
    some = n.0

    go : (b : Bool) → first (rs ++ (r ∷ [])) ≡ cond (eqb (first rs) 0) (cond r.holds r.number 0) (first rs)
        → cond b q.number (first (rs ++ (r ∷ [])))
        ≡ cond (eqb (cond b q.number (first rs)) 0) (cond r.holds r.number 0) (cond b q.number (first rs))
    go true h = rw (ne_eqb q.number 0 (λ z. omega arith)) refl
    go false h = h

-- what no step does, none of the first does
fewer : (f : Step → Bool) (k : Kind) (s : Space) (n m a d : ℕ) (bs : List ℕ) → n ≤ m → any_step f (elements k s m a d bs) ≡ false
    → any_step f (elements k s n a d bs) ≡ false
unfolding any_step elements
fewer f k s zero m a d bs l e = refl
fewer f k s (suc n) zero a d bs l e = absurd (omega arith)
fewer f k s (suc n) (suc m) a d bs l e =
    let (here, more) = or_false (f (record { kind = k; space = s; address = a; bytes = payload k s bs })) _ e in
    rw here (fewer f k s n m (a + d) d (drop (carried k s) bs) (omega arith) more)

module _ (guard words store room : List ℕ) where
  numbered : Numbered (burst_refusals words store room)
  unfolding burst_refusals
  numbered = omega arith

  -- the number, from the plain burst's
  number_is : first (guarded_refusals guard words store room)
      ≡ cond (eqb (first (burst_refusals words store room)) 0) (cond (protected guard (promised words)) 71 0)
      (first (burst_refusals words store room))
  unfolding guarded_refusals
  number_is = first-behind (burst_refusals words store room) _ numbered

  -- What holds of every refusal, and of elements that write no protected byte, holds of every guarded burst.
  pub burst-cases : (P : Burst → Type 0)
      → ((n i : ℕ) → P (record { answer = Answer.refused n i; store = store; room = room }))
      → ((k : Kind) (s : Space) (n a d : ℕ) (bs : List ℕ) → protected guard (elements k s n a d bs) ≡ false
      → P
      (record {
        answer = Answer.accepted (n ∷ []);
        store = store_after (elements k s n a d bs) store;
        room = burst_words k n (values_read (elements k s n a d bs) store);
      }))
      → P (guarded_burst guard words store room)
  unfolding guarded_burst burst_by burst_outcome burst_steps protected promised
  burst-cases P refuses accepts = go (soundness guard)
    where
      by : (number : ℕ) → first (guarded_refusals guard words store room) ≡ number → P (burst_outcome number words store room)
      by zero e =
          let (plain, free) = apart (first (burst_refusals words store room)) (protected guard (promised words)) (sym number_is ∙ e) in
          accepts (burst_kind (header_of (first_word words))) registers (came words) _ _ (bytes_of_words (drop 1 words))
          (fewer (writes_protected guard) _ registers (came words) _ _ _ _ (sound words store room plain).sent free)
        where
          apart : (n : ℕ) (b : Bool) → cond (eqb n 0) (cond b 71 0) n ≡ 0 → (n ≡ 0) × (b ≡ false)
          apart zero true e = absurd (omega arith)
          apart zero false e = (refl, refl)
          apart (suc n) b e = let q : suc n ≡ 0 = rw (eqb-suc-zero n) at e in absurd (omega arith)
      by (suc n) e = refuses (suc n) 0

      go : (a : Answer) → P (burst_by a (first (guarded_refusals guard words store room)) words store room)
      go (Answer.accepted pairs) = by _ refl
      go (Answer.refused n i) = refuses n i

  -- as the code comes to it
  pub burst-unsound : (n i : ℕ) → Answer.refused n i ≡ soundness guard
      → guarded_burst guard words store room ≡ record { answer = Answer.refused n i; store = store; room = room }
  unfolding guarded_burst burst_by
  burst-unsound n i e = rw (← e) refl

  module _ (values : List ℕ) (good : Answer.accepted values ≡ soundness guard) where
    pub burst-passes : false ≡ protected guard (promised words) → guarded_burst guard words store room ≡ run_burst words store room
    unfolding guarded_burst burst_by run_burst
    burst-passes e = rw (← good, number_is, ← e) (ap (λ n. burst_outcome n words store room) (go (first (burst_refusals words store room))))
      where
        go : (n : ℕ) → cond (eqb n 0) 0 n ≡ n
        go zero = refl
        go (suc n) = rw (eqb-suc-zero n) refl

    pub burst-stopped : true ≡ protected guard (promised words) → (n : ℕ) → n ≡ first (burst_refusals words store room) → (m : ℕ)
        → m ≡ cond (eqb n 0) 71 n
        → guarded_burst guard words store room ≡ record { answer = Answer.refused m 0; store = store; room = room }
    unfolding guarded_burst burst_by burst_outcome
    burst-stopped e n q m h = rw (← good, number_is, ← e, ← q, h) (go n)
      where
        go : (n : ℕ)
            → burst_outcome (cond (eqb n 0) 71 n) words store room
            ≡ record { answer = Answer.refused (cond (eqb n 0) 71 n) 0; store = store; room = room }
        go zero = refl
        go (suc n) = rw (eqb-suc-zero n) refl

-- the plain burst's refusal stays
pub rule-stays : (r : TableRule) → rule_number r ≡ cond (eqb (rule_number r) 0) 71 (rule_number r)
rule-stays r = let h = (rule_number_range r).0 in rw (ne_eqb (rule_number r) 0 (λ z. omega arith)) refl

-- a refusal as the code answers it
pub refused-left : (guard words store room : List ℕ) (r : Refusal)
    → guarded_burst guard words store room ≡ record { answer = Answer.refused (rule_number r.rule) r.place; store = store; room = room }
    → (burst_left (Err r) store room ≡ guarded_burst guard words store room)
    × ((n : ℕ) → verdict_listed (Err r) ≡ Answer.accepted (n ∷ []) → n ≤ most_in_burst)
unfolding burst_left verdict_listed
refused-left guard words store room r e = (sym e, λ n q. let z : ◌≡◌ {A = ℕ} 0 1 = cc in absurd (omega arith))

-- the promised elements, by one look at each range
pub promised-none : (guard words : List ℕ) → length words ≡ 0 → false ≡ protected guard (promised words)
unfolding promised burst_steps first_word header_of elements protected any_step
promised-none guard [] e = refl
promised-none guard (w ∷ ws) e = absurd (omega arith)

module _ (guard words : List ℕ) (h : Header) (read : h ≡ header_of (get_or words 0 0)) (some : 0 < length words) where
  same-header : (words : List ℕ) → h ≡ header_of (get_or words 0 0) → 0 < length words → h ≡ header_of (first_word words)
  unfolding first_word
  same-header [] e l = absurd (omega arith)
  same-header (w ∷ ws) e l = e

  pub promised-read : (not (eqb h.command write_command) || eqb h.count 0) ≡ true → false ≡ protected guard (promised words)
  unfolding promised burst_steps burst_kind protected any_step elements is_write
  promised-read e = rw (← same-header words read some) (go (eqb h.command write_command) h.count e)
    where
      go : (t : Bool) (n : ℕ) → (not t || eqb n 0) ≡ true
          → false ≡ any_step (writes_protected guard)
          (elements (pick_kind t) registers n h.address (cond h.increment 4 0) (bytes_of_words (drop 1 words)))
      go false n e = sym (read-elements guard _ registers n _ _ _ refl)
      go true zero e = refl
      go true (suc n) e =
          let h : true ≡ false = sym e ∙ eqb-suc-zero n in
          let z : ◌≡◌ {A = ℕ} 0 1 = cc in
          absurd (omega arith)

  pub promised-block : (not (eqb h.command write_command) || eqb h.count 0) ≡ false → (b : Bool)
      → b ≡ touches guard h.address (cond h.increment (h.count * 4) 4) → b ≡ protected guard (promised words)
  unfolding promised burst_steps burst_kind row
  promised-block e b q =
      let (written, more) = or_false (not (eqb h.command write_command)) _ e in
      let w = not-false (eqb h.command write_command) written in
      let start = ap (λ (x : ℕ). touches guard x (cond h.increment (h.count * 4) 4)) (zero-add h.address) in
      q
      ∙ sym
      (rw (← same-header words read some, w)
      (block guard registers h.count h.address h.increment (bytes_of_words (drop 1 words)) ∙ rw more start))
