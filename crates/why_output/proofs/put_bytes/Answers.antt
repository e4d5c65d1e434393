use Rattle.text.proofs.RoomLaws.{put_then}
use Rattle.why_output.specs.Whole.{bytes_text}
use Rattle.why_output.proofs.put_bytes.Goals as goal

pub returns-then-w : goal.returns-then-w
unfolding bytes_text
returns-then-w c = rw (c.if-w.true, ← c.is_some-given.ensures) c.put_packets.ensures

pub returns : goal.returns
unfolding bytes_text
returns c = rw (c.if-w.false, ← c.is_some-given.ensures) (put_then _ _ _ _ c.put_judged-at.ensures c.put_framed_hint.ensures)
