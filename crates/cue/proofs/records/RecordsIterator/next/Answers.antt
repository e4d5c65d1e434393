use Rattle.std.proofs.Common.{◌≡◌, ◌∙◌, ap, length, arith}
use Rattle.packet.specs.Command.{pick_kind}
use Rattle.cue.specs.Records.{record_at, record_kind, record_bytes}
use Rattle.cue.specs.declared.records.Record.{Record}
use Rattle.cue.proofs.CutLaws.{cut-next, cut-end}
use Rattle.cue.proofs.records.RecordsIterator.next.Goals as goal

pub returns-then-is_empty-clause-steps : goal.returns-then-is_empty-clause-steps
returns-then-is_empty-clause-steps c = let e = cut-end c.args.self.now.0.now (grind arith) in (e, e)

steps : goal.returns-clause-steps
unfolding record_at record_kind
steps c =
    let n : c.record_bytes.result ≡ record_bytes (record_kind c.args.self.now.0.now) =
    c.record_bytes.ensures.0 ∙ ap (λ (r : Record). record_bytes (pick_kind r.write)) c.record_at-r.ensures in
    rw (c.past-self.ensures, c.record_at-r.ensures, n) (cut-next _ (grind arith))

pub returns-clause-steps : goal.returns-clause-steps
returns-clause-steps c = steps c

pub returns-clause-goes : goal.returns-clause-goes
returns-clause-goes c = record { on = λ _. (tt, tt, omega (arith, ap length (steps c))); keeps = tt; rests = λ _. tt }
