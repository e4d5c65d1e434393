use Rattle.showcheck_output.proofs.AroundLaws.{window_is}
use Rattle.showcheck_output.proofs.around.put_around.Goals as goal

pub returns : goal.returns
returns c = let a = c.args in
    rw (window_is a.bytes.now a.k c.behind_window-end.ensures c.before_window-from.ensures) at c.put_line.ensures
