use mathlib.Core.Path.{refl}
use Rattle.packet.specs.Command.{out_of_place}
use Rattle.packet.proofs.ElementLaws.{row-bytes_le, past_quick}
use Rattle.packet.proofs.ReachLaws.{misaligned_quick}
use Rattle.packet.proofs.refusal.out_of_place.Goals as goal

pub passes_end-requires : goal.passes_end-requires
passes_end-requires c = (c.span_by.ensures.1, rw c.requires (row-bytes_le c.args.f))

pub returns : goal.returns
unfolding out_of_place
returns c p rest e = let f = c.args.f in
    rw (
      past_quick p f rest,
      ← e,
      c.passes_end.ensures,
      c.span_by.ensures.0,
      c.misaligned_by.ensures,
      misaligned_quick f _ c.args.used c.requires,
      ← c.requires,
    )
    refl
