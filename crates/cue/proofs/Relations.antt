-- What ties packets to records: sound commands, steps with unlock writes put in, and packets that hold records.
use Prim.Native.Nat.{ℕ, ◌≤◌, ◌<◌}
use mathlib.Core.Path.{◌≡◌}
use mathlib.Core.List.{List, [], ◌∷◌, ◌++◌}
use mathlib.Core.Bool.{Bool, false, not, ◌&&◌}
use lib.ListN.{length}
use Rattle.lbp16.specs.Space.{is_absent, row}
use Rattle.lbp16.specs.Pointer.{above_size}
use Rattle.lbp16.specs.declared.pointer.Pointers.{Pointers}
use Rattle.packet.specs.Bytes.{number}
use Rattle.packet.specs.Step.{Step, is_info, carried, is_write, unlocked}
use Rattle.packet.specs.Inside.{status_write}
use Rattle.packet.specs.Rules.{misaligned, past_end, barred, any_step}
use Rattle.packet.specs.Command.{limit}
use Rattle.packet.specs.Judge.{Carried, accepted, judge}
use Rattle.cue.specs.Records.{bad_element}
use Rattle.cue.specs.Packing.{Command, command_steps}

-- each element has n bytes
pub data Wide (n : ℕ) : List (List ℕ) → Type 0 where
  none : Wide n []
  more : {e : List ℕ} {es : List (List ℕ)} → length e ≡ n → Wide n es → Wide n (e ∷ es)

-- A command that no rule but 3, 11 and 12 could refuse. `open?`: whether the unlock is open before it.
pub record Sound (open? : Bool) (c : Command) : Type 0 where
  pub plain : is_info c.kind ≡ false
  pub present : is_absent c.space ≡ false
  pub some : 1 ≤ length c.elements
  pub few : length c.elements ≤ 127
  pub wide : Wide (carried c.kind c.space) c.elements
  pub address : c.address < 65536
  pub aligned : misaligned (row c.space) c.address ≡ false
  pub inside : any_step past_end (command_steps c) ≡ false
  pub allowed : any_step barred (command_steps c) ≡ false
  pub unlocks : (is_write c.kind && (row c.space).locked && not open?) ≡ false

-- the commands of a packet, each sound after those before it
pub data SoundAll : Bool → List Command → Type 0 where
  none : {open? : Bool} → SoundAll open? []
  more : {open? : Bool} {c : Command} {cs : List Command} → Sound open? c
      → SoundAll (unlocked open? (command_steps c)) cs → SoundAll open? (c ∷ cs)

-- `Mixed ss xs`: the steps ss are the records xs with writes that open the unlock put in
pub data Mixed : List Step → List Step → Type 0 where
  none : Mixed [] []
  same : {x : Step} {ss xs : List Step} → Mixed ss xs → Mixed (x ∷ ss) (x ∷ xs)
  unlock : {bs : List ℕ} {ss xs : List Step} → length bs ≡ 2 → number bs ≡ 0x5A02 → Mixed ss xs
      → Mixed (status_write 0x1A bs ∷ ss) xs

-- records, none an info read, that refusal 23 does not turn away, with as many bytes as their elements have
pub data Good : List Step → Type 0 where
  none : Good []
  more : {x : Step} {xs : List Step} → bad_element x ≡ false → is_info x.kind ≡ false
      → length x.bytes ≡ carried x.kind x.space → Good xs → Good (x ∷ xs)

-- From any pointers that refusal 1 does not turn away the packet is accepted and its steps are ss.
pub record Does (packet : List ℕ) (ss : List Step) : Type 0 where
  pub short : length packet ≤ limit
  pub judged : (p : Pointers) → above_size p ≡ false
      → (c : Carried) × (judge p packet ≡ accepted c) × (c.steps ≡ ss) × (above_size c.pointers ≡ false)

-- the packets' steps, joined, are the records with unlock writes put in
pub data Holds : List (List ℕ) → List Step → Type 0 where
  none : Holds [] []
  more : {packet : List ℕ} {packets : List (List ℕ)} {ss xs ys : List Step} → Does packet ss → Mixed ss xs
      → Holds packets ys → Holds (packet ∷ packets) (xs ++ ys)
