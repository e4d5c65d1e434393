use borrow.Author.Tests.{lt-ltb, le-ltb}
use Rattle.text.specs.Number.{ascii}
use Rattle.packet_text.specs.Wording.{described_text}
use Rattle.text.proofs.RoomLaws.{put_then}
use Rattle.packet_text.proofs.command.described.Goals as goal

pub returns-then-n-lt2 : goal.returns-then-n-lt2
unfolding described_text ascii
returns-then-n-lt2 c = rw (lt-ltb _ 2 c.if-n-lt2.true) c.put.ensures

pub returns : goal.returns
unfolding described_text ascii
returns c = rw (le-ltb _ 2 c.if-n-lt2.false) (put_then _ _ _ _ (put_then _ _ _ _ c.put-at.ensures c.fields-at.ensures) c.address.ensures)
