-- Two cue lists of which neither writes a cell that the other names.
use Rattle.std.specs.Prelude.{ℕ, ◌+◌, List, [], ◌∷◌, Bool, false, ◌||◌, ◌&&◌, cond, eqb}
use Rattle.lbp16.specs.Answer.{rule_number}
use Rattle.lbp16.specs.Space.{Space, space_number}
use Rattle.packet.specs.Step.{Step, is_write}
use Rattle.cue.specs.Records.{Listed, refused, records, records_of}
use Rattle.independent.specs.declared.Independence.{Independence}

-- A cell is an element of the store: a space and an address in it.
pub record Cell : Type 0 where
  pub space : Space
  pub address : ℕ

unfoldable pub cell_of : Step → Cell
cell_of x = record { space = x.space; address = x.address }

unfoldable pub same_cell : Cell → Cell → Bool
same_cell c d = eqb c.address d.address && eqb (space_number c.space) (space_number d.space)

-- whether one of the records names the cell, and whether one writes it
unfoldable pub names : List Step → Cell → Bool
names [] c = false
names (x ∷ xs) c = same_cell (cell_of x) c || names xs c

unfoldable pub writes : List Step → Cell → Bool
writes [] c = false
writes (x ∷ xs) c = (is_write x.kind && same_cell (cell_of x) c) || writes xs c

-- a record that names a cell which the records xs write, or writes one which they name
unfoldable pub clashes : List Step → Step → Bool
clashes xs y = writes xs (cell_of y) || (is_write y.kind && names xs (cell_of y))

-- What is answered: a number, which list (0 the first, 1 the second), and the index of a record in it.
pub record Compared : Type 0 where
  pub number : ℕ
  pub list : ℕ
  pub place : ℕ

abbrev pub independent : Compared
independent = record { number = 0; list = 0; place = 0 }

abbrev pub refused_list : ℕ → ℕ → ℕ → Compared
refused_list list n i = record { number = n; list = list; place = i }

-- 51: this record of the second list clashes with the first.
abbrev pub clash : ℕ → Compared
clash index = record { number = 51; list = 1; place = index }

-- The first record of the second list that clashes with the first list's records, counted from `index`.
unfoldable pub first_clash : List Step → ℕ → List Step → Compared
first_clash xs index [] = independent
first_clash xs index (y ∷ ys) = cond (clashes xs y) (clash index) (first_clash xs (index + 1) ys)

-- The first list's refusal, or the second's, or the clash, or none of these.
unfoldable pub compared : Listed → Listed → Compared
compared (refused n i) second = refused_list 0 n i
compared (records xs) (refused n i) = refused_list 1 n i
compared (records xs) (records ys) = first_clash xs 0 ys

unfoldable pub independence : List ℕ → List ℕ → Compared
independence first second = compared (records_of first) (records_of second)

-- an answer of the code: its number and values, for each case
unfoldable pub independence_listed : Independence → Compared
independence_listed Independence.Independent = independent
independence_listed (Independence.Refused list r) = refused_list list (rule_number r.rule) r.place
independence_listed (Independence.Clash index) = clash index
