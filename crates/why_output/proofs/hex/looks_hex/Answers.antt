use Rattle.why_output.proofs.HexLaws.{has_none, has_byte_lem}
use borrow.Author.Rules.{rules}
use Rattle.why_output.proofs.hex.looks_hex.Goals as goal

pub returns-in-Ok : goal.returns-in-Ok
returns-in-Ok c = has_byte_lem _ _ _ _ (rw c.in-Ok.is at c.read-found.ensures) (search rules)

pub returns-in-Err : goal.returns-in-Err
returns-in-Err c = has_none _ _ _ _ (rw c.in-Err.is at c.read-found.ensures)
