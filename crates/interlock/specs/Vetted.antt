-- Vetted before the show: the packets of a list that the guard lets pass are accepted with the guard, and demand 3 holds of them.
use Rattle.std.specs.Prelude.{ℕ, suc, ◌≡◌, ◌⊎◌, List, [], ◌∷◌, ◌++◌, true, false, ◌&&◌, length, take}
use Rattle.lbp16.specs.Answer.{Answer}
use Rattle.lbp16.specs.declared.pointer.Pointers.{Pointers}
use Rattle.packet.specs.Step.{Step}
use Rattle.packet.specs.Command.{limit}
use Rattle.card.specs.Run.{bad_state}
use Rattle.cue.specs.Records.{records, records_of}
use Rattle.cue.specs.Output.{frames, apart}
use Rattle.cue.specs.Compile.{packed}
use Rattle.cue.specs.Play.{Played, is_accepted, reply_length}
use Rattle.cue.specs.Demand3.{SameAsRecords}
use Rattle.interlock.specs.Guarded.{protected_place, guarded_packet}

-- `play` of `cue`, with guarded runs
unfoldable pub guarded_play : List ℕ → List (List ℕ) → (ℕ → List ℕ) → List ℕ → Pointers → Played
guarded_play guard [] rooms store p = record { accepted = true; replies = []; store = store; pointers = p }
guarded_play guard (packet ∷ rest) rooms store p =
    let o = guarded_packet guard packet store p (rooms 0) in
    let r = guarded_play guard rest (λ i. rooms (suc i)) o.store o.pointers in
    record {
      accepted = is_accepted o.answer && r.accepted;
      replies = take (reply_length o.answer) o.reply ++ r.replies;
      store = r.store;
      pointers = r.pointers;
    }

-- from every state that refusal 1 does not turn away, and with every reply room of 1,472 bytes, the packet is accepted
abbrev pub Passes : List ℕ → List ℕ → Type 0
Passes guard packet =
    (store : List ℕ) (p : Pointers) (reply : List ℕ) → bad_state store p ≡ false → length reply ≡ limit
    → is_accepted (guarded_packet guard packet store p reply).answer ≡ true

-- and the same of refused with 71
abbrev pub Stopped : List ℕ → List ℕ → Type 0
Stopped guard packet =
    (store : List ℕ) (p : Pointers) (reply : List ℕ) → bad_state store p ≡ false → length reply ≡ limit
    → (guarded_packet guard packet store p reply).answer ≡ Answer.refused 71 (protected_place guard p packet)

-- each packet passes; some packet is stopped
abbrev pub AllPass : List ℕ → List (List ℕ) → Type 0
AllPass guard [] = Unit {0}
AllPass guard (packet ∷ rest) = Passes guard packet × AllPass guard rest

abbrev pub SomeStopped : List ℕ → List (List ℕ) → Type 0
SomeStopped guard [] = ⊥
SomeStopped guard (packet ∷ rest) = Stopped guard packet ⊎ SomeStopped guard rest

-- Demand 3 of `cue`, word for word with guarded runs, and each packet accepted.
pub record GuardedDemand3 (guard list room : List ℕ) (bytes count : ℕ) : Type 0 where
  pub xs : List Step
  pub list-records : records_of list ≡ records xs
  pub packets : apart (take bytes room) ≡ frames (packed xs)
  pub packet-count : count ≡ length (packed xs)
  pub passes : AllPass guard (packed xs)
  pub same : (store : List ℕ) (p : Pointers) (rooms : ℕ → List ℕ) → bad_state store p ≡ false
      → ((i : ℕ) → length (rooms i) ≡ limit)
      → SameAsRecords xs (packed xs) store (guarded_play guard (packed xs) rooms store p)

-- that of `tight`
pub record GuardedTight (guard list proposal : List ℕ) (count : ℕ) : Type 0 where
  pub xs : List Step
  pub list-records : records_of list ≡ records xs
  pub packets : List (List ℕ)
  pub taken-apart : apart proposal ≡ frames packets
  pub packet-count : count ≡ length packets
  pub passes : AllPass guard packets
  pub same : (store : List ℕ) (p : Pointers) (rooms : ℕ → List ℕ) → bad_state store p ≡ false
      → ((i : ℕ) → length (rooms i) ≡ limit)
      → SameAsRecords xs packets store (guarded_play guard packets rooms store p)
