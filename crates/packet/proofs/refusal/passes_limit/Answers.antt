use native.Mathlib.Omega.{arith}
use Prim.Native.Nat.{◌+◌, ◌-◌}
use Rattle.lbp16.proofs.BoolLaws.{same_ltb}
use Rattle.packet.proofs.refusal.passes_limit.Goals as goal

pub returns : goal.returns
returns c = same_ltb (1472 - c.args.reply) c.args.more 1472 (c.args.reply + c.args.more) (λ h. omega arith) (λ h. omega arith)
