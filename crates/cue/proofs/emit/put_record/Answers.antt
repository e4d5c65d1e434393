use Rattle.cue.proofs.WriteLaws.{wrote-is}
use Rattle.cue.proofs.emit.put_record.Goals as goal

pub returns : goal.returns
returns c = rw (
  c.put_element.ensures,
  c.put_head.ensures,
  c.put_unlock.ensures,
  c.put_frame.ensures,
)
    (wrote-is
    c.args.q
    c.args.n
    c.args.rest.now
    c.args.out.now
    c.requires.2)
