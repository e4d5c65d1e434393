use mathlib.Core.Path.{refl, ◌∙◌}
use Rattle.card.specs.Run.{counted, bytes_of_count}
use Rattle.card.proofs.RunLaws.{count_modulo}
use Rattle.card.proofs.run.count_packet.Goals as goal

pub returns : goal.returns
unfolding counted bytes_of_count
returns c = c.store2.ensures ∙ rw (count_modulo, c.fetch2.ensures) refl
