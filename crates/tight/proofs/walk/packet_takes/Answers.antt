use mathlib.Core.Path.{sym, ap, ◌∙◌}
use Rattle.packet.specs.Verdict.{verdict_listed}
use Rattle.tight.proofs.PacketLaws.{packet-long, packet-short, packet-refused}
use Rattle.packet.proofs.JudgeLaws.{accepted-some}
use Rattle.tight.proofs.walk.packet_takes.Goals as goal

pub returns-then-packet-gt-LIMIT : goal.returns-then-packet-gt-LIMIT
returns-then-packet-gt-LIMIT c = packet-long _ _ c.if-packet-gt-LIMIT.true

pub commands_take-requires : goal.commands_take-requires
unfolding verdict_listed
commands_take-requires c = accepted-some _ c.in-Ok.field-0 (ap verdict_listed (sym c.in-Ok.is) ∙ c.judge.ensures)

pub returns-in-Err : goal.returns-in-Err
unfolding verdict_listed
returns-in-Err c = packet-refused _ _ c.if-packet-gt-LIMIT.false _ c.unset-p.ensures _ _
    (ap verdict_listed (sym c.in-Err.is) ∙ c.judge.ensures)

pub returns-in-Ok : goal.returns-in-Ok
returns-in-Ok c = c.commands_take.ensures ∙ sym (packet-short _ _ c.if-packet-gt-LIMIT.false _ c.unset-p.ensures)
