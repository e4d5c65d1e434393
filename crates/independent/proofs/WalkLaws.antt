-- Going through an accepted list, record by record.
use Prim.Native.Nat.{ℕ, ◌<◌}
use mathlib.Core.Path.{◌≡◌, refl, ap, ◌∙◌}
use mathlib.Core.List.{List, [], ◌∷◌, ◌++◌, map}
use Rattle.lbp16.specs.Space.{store_bytes}
use Rattle.packet.specs.Step.{Step, is_write}
use Rattle.cue.specs.Records.{records, records_of, brief}
use Rattle.cue.specs.declared.records.Record.{Record}
use Rattle.cue.proofs.PackingLaws.{space-again}
use Rattle.cue.proofs.RecordLaws.{records-good}
use Rattle.cue.proofs.Relations.{Good}
use Rattle.cue.proofs.RunAll.{good-split}
use Rattle.independent.specs.Independent.{cell_of}
use Rattle.independent.specs.Inside.{Present, place_of, place_by}
use Rattle.independent.proofs.PlaceLaws.{placed, place_inside}

-- the place of a record that the code read, and whether it writes
pub place-brief : (x : Step) → place_by (brief x) ≡ place_of (cell_of x)
unfolding place_by place_of cell_of brief
place-brief x = rw (space-again x.space) refl

pub write-brief : (x : Step) → (brief x).write ≡ is_write x.kind
unfolding brief
write-brief x = refl

first-present : {x : Step} {xs : List Step} → Good (x ∷ xs) → Present (cell_of x)
first-present (Good.more b i w g) = (placed _ b i w).cell

-- a record of an accepted list names a cell that the card has
pub present : (list : List ℕ) (done : List Step) (x : Step) (later : List Step) → records_of list ≡ records (done ++ x ∷ later)
    → Present (cell_of x)
present list done x later e = first-present (good-split done (x ∷ later) (records-good list _ e)).1

-- The record that the code has before it, and those that follow.
pub record Here (list : List ℕ) (done : List Step) (r : Record) (left : List Record) : Type 0 where
  pub x : Step
  pub later : List Step
  pub list-records : records_of list ≡ records (done ++ x ∷ later)
  pub cell : Present (cell_of x)
  pub place : place_by r ≡ place_of (cell_of x)
  pub write : r.write ≡ is_write x.kind
  pub remains : left ≡ map brief later

pub here : (list : List ℕ) (done todo : List Step) (r : Record) (left : List Record) → records_of list ≡ records (done ++ todo)
    → r ∷ left ≡ map brief todo → Here list done r left
here list done [] r left e h = let z : ◌≡◌ {A = List Record} (r ∷ left) [] = h in absurd cc
here list done (x ∷ later) r left e h =
    let a : r ≡ brief x = cc in
    let b : left ≡ map brief later = cc in
    record {
      x = x;
      later = later;
      list-records = e;
      cell = present list done x later e;
      place = ap place_by a ∙ place-brief x;
      write = ap (λ (s : Record). s.write) a ∙ write-brief x;
      remains = b;
    }

pub inside_here : {list : List ℕ} {done : List Step} {r : Record} {left : List Record} → Here list done r left
    → place_by r < store_bytes
inside_here h = rw h.place (place_inside (cell_of h.x) h.cell)
