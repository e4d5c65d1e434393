use mathlib.Core.Path.{refl}
use Rattle.head.specs.Exports.{number_of, value_of, count_of, numbers_of}
use Rattle.head.specs.Listing.{listed_by}
use Rattle.head.proofs.numbers.numbers_of.Goals as goal

pub returns-in-Ok : goal.returns-in-Ok
unfolding listed_by
returns-in-Ok g c = rw c.in-Ok.is c.numbers.ensures

pub returns-in-Err : goal.returns-in-Err
unfolding listed_by numbers_of number_of value_of count_of
returns-in-Err g c = rw (c.in-Err.is, c.number.ensures) refl
