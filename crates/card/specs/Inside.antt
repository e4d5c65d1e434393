-- Inside of private functions' contracts. A reader need not believe these: laws tie them to steps.
use Rattle.std.specs.Prelude.{ℕ, zero, suc, ◌+◌, ◌≤◌, List, ◌++◌, length, take, drop, ◌≡◌, Bool, cond, eqb}
use Rattle.std.proofs.lemmas.List.Edits.{sets}
use Rattle.lbp16.specs.declared.pointer.Pointers.{Pointers}
use Rattle.lbp16.specs.declared.word.Fields.{Fields}
use Rattle.packet.specs.Step.{store_after, values_read}
use Rattle.packet.specs.Command.{row_of, address_used, stride}
use Rattle.packet.specs.Reach.{reach_at}
use Rattle.packet.specs.declared.command.Reach.{Reach}
use Rattle.packet.specs.Inside.{Passed}
use Rattle.packet.specs.Judge.{Carried, Verdict, refused, accepted, judge}
use Rattle.card.specs.declared.run.Span.{Span}
use Rattle.lbp16.specs.Pointer.{pointers_of, lent_pointers}

-- an element's bytes: 4 or 2
abbrev pub IsWidth : ℕ → Type 0
IsWidth w = w ≡ cond (eqb w 4) 4 2

-- n elements of w bytes, d apart from place i on, stand within a list of the given length
abbrev pub Within : ℕ → ℕ → ℕ → ℕ → ℕ → Type 0
Within zero i d w bytes = Unit {0}
Within (suc n) i d w bytes = (i + w ≤ bytes) × Within n (i + d) d w bytes

-- the list dst after n elements of w bytes were moved there from src, one after the other
unfoldable pub moved : ℕ → ℕ → List ℕ → ℕ → ℕ → List ℕ → ℕ → ℕ → List ℕ
moved zero w src i di dst j dj = dst
moved (suc n) w src i di dst j dj = moved n w src (i + di) di (sets dst j (take w (drop i src))) (j + dj) dj

-- a list with values put there from place n on, as a lent part's front
unfoldable pub laid : ℕ → List ℕ → List ℕ → List ℕ
laid n values room = take n room ++ (values ++ drop (length values) (drop n room))

abbrev pub IsAccepted : Verdict → Type 0
IsAccepted (refused n place) = ⊥
IsAccepted (accepted c) = Unit {0}

-- a command that no rule refuses, whatever the commands before it left beside the pointers
pub record LetPass (p : Pointers) (f : Fields) (rest : List ℕ) : Type 0 where
  pub open? : Bool
  pub reply : ℕ
  pub passed : Passed p open? reply f rest

-- a command that is read and passes, with its reach, on such pointers
pub record Ready (lent : List ℕ) (f : Fields) (rest : List ℕ) (r : Reach) : Type 0 where
  pub passed : LetPass (pointers_of lent) f rest
  pub reach : r ≡ reach_at (pointers_of lent) f rest

-- where a command's elements stand
unfoldable pub span_at : Pointers → Fields → List ℕ → Span
span_at p f rest =
    let w = row_of f in
    record { at = w.place + address_used p f rest; step = stride f; element = w.element; count = f.count }

-- doing all commands of a packet that is accepted on these pointers
pub record Performed (packet store reply lent : List ℕ) (store' reply' lent' : List ℕ) (elements : ℕ) : Type 0 where
  pub carried : Carried
  pub judged : judge (pointers_of lent) packet ≡ accepted carried
  pub stored : store' ≡ store_after carried.steps store
  pub replied : reply'
      ≡ values_read carried.steps store ++ drop (length (values_read carried.steps store)) reply
  pub pointed : lent' ≡ lent_pointers carried.pointers
  pub moved : elements ≡ length carried.steps
