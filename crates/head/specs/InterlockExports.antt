-- What the exports with a guard return and leave.
use Rattle.std.specs.Prelude.{ℕ, List}
use Rattle.packet.specs.Verdict.{answer_to}
use Rattle.interlock.specs.Guard.{soundness}
use Rattle.interlock.specs.Guarded.{guarded_check, guarded_run, guarded_burst, guarded_list}
use Rattle.head.specs.Exports.{Given, given_by, RunExport, run_by, SpiExport, spi_by}

unfoldable pub export_guard : List ℕ → Given
export_guard guard = given_by (soundness guard)

unfoldable pub export_guarded_check : List ℕ → List ℕ → List ℕ → List ℕ → Given
export_guarded_check packet store pointers guard = given_by (answer_to (guarded_check guard packet store pointers))

unfoldable pub export_guarded_run : List ℕ → List ℕ → List ℕ → List ℕ → List ℕ → RunExport
export_guarded_run packet store pointers reply guard = run_by (guarded_run guard packet store pointers reply)

unfoldable pub export_guarded_spi : List ℕ → List ℕ → List ℕ → List ℕ → SpiExport
export_guarded_spi words store answer guard = spi_by (guarded_burst guard words store answer)

unfoldable pub export_guarded_list : List ℕ → List ℕ → Given
export_guarded_list list guard = given_by (guarded_list guard list)
