use native.Mathlib.Omega.{arith}
use Rattle.text.specs.Number.{ascii}
use Rattle.showcheck_output.specs.Given.{usage_text, fault_text}
use Rattle.showcheck_output.proofs.put_fault.Goals as goal

pub returns-in-NoStore : goal.returns-in-NoStore
unfolding fault_text ascii
returns-in-NoStore c = record { room_after = rw c.in-NoStore.is c.put.ensures; fits = rw c.in-NoStore.is (omega arith) }

pub returns-in-NoPointers : goal.returns-in-NoPointers
unfolding fault_text ascii
returns-in-NoPointers c = record { room_after = rw c.in-NoPointers.is c.put-in-NoPointers.ensures; fits = rw c.in-NoPointers.is (omega arith) }

pub returns-in-Usage : goal.returns-in-Usage
unfolding fault_text usage_text ascii
returns-in-Usage c = record { room_after = rw c.in-Usage.is c.put_usage.ensures; fits = rw c.in-Usage.is (omega arith) }
