use Rattle.std.proofs.lemmas.Float.{T_from_true}
use lib.Ieee.{of_bits, neg}
use Rattle.panelshow.proofs.line.magnitude.Goals as goal

-- the two tests are what the cast asks

pub truncating_f32_to_u64-requires : goal.truncating_f32_to_u64-requires
unfolding of_bits neg
truncating_f32_to_u64-requires c = record {
  lower_bound = T_from_true _ c.if-n.true;
  upper_bound = T_from_true _ c.if-n-2.true;
}
