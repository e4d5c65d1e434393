use Rattle.text.specs.Number.{ascii}
use Rattle.text.proofs.RoomLaws.{put_then}
use Rattle.packet_text.proofs.PacketLaws.{refusal-short, refusal-whole}
use Rattle.packet_text.proofs.whole.put_refusal.Goals as goal

pub returns-then-r-lt3 : goal.returns-then-r-lt3
unfolding ascii
returns-then-r-lt3 c = let a = c.args in
    rw (refusal-short a.packet.now a.r c.if-r-lt3.true) at (put_then _ _ _ _ c.put-at.ensures c.put_refused-at.ensures)

pub returns : goal.returns
unfolding ascii
returns c = let a = c.args in
    rw (refusal-whole a.packet.now a.r c.if-r-lt3.false) at
    (put_then _ _ _ _ (put_then _ _ _ _ c.put-at.ensures c.put_refused-at.ensures) (put_then _ _ _ _ c.put-at-2.ensures c.put_command.ensures))
