-- Rules of the refusal table: each a number and its condition, lowest number first.
use Rattle.std.specs.Prelude.{ℕ, ◌+◌, ◌%◌, List, [], ◌∷◌, Bool, false, not, ◌||◌, ◌&&◌, cond, eqb, ltb}
use Rattle.lbp16.specs.declared.space.Row.{Row}
use Rattle.packet.specs.Step.{Step, is_write, row_by}

pub record Rule : Type 0 where
  pub number : ℕ
  pub holds : Bool

-- the number of the first rule whose condition holds, 0 if none does
unfoldable pub first : List Rule → ℕ
first [] = 0
first (r ∷ rs) = cond r.holds r.number (first rs)

-- an address that is not a multiple of the element size
unfoldable pub misaligned : Row → ℕ → Bool
misaligned r a = not (eqb (a % r.element) 0)

-- an element past the end of the space, or of the info area
unfoldable pub past_end : Step → Bool
past_end s = let r = row_by s.kind s.space in ltb r.bytes (s.address + r.element)

-- an element written to a read-only cell: any of space 7, those of space 2 below 0x20
unfoldable pub barred : Step → Bool
barred s = ltb s.address (row_by s.kind s.space).read_only && is_write s.kind

-- whether the test holds of some step
unfoldable pub any_step : (Step → Bool) → List Step → Bool
any_step f [] = false
any_step f (s ∷ ss) = f s || any_step f ss
