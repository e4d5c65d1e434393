use mathlib.Core.Path.{refl}
use Rattle.why_output.specs.Words.{is_option}
use Rattle.std.proofs.lemmas.Option.{unwrap_or-slice_get}
use Rattle.why_output.proofs.words.is_option.Goals as goal

pub returns : goal.returns
unfolding is_option
returns c = rw (c.unwrap_or.ensures, c.copied.ensures, c.first.ensures.value, unwrap_or-slice_get c.args.word.now 0 0) refl
