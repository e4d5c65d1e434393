use Rattle.packet_text.specs.Packet.{shown_left}
use Rattle.packet_text.proofs.PacketLaws.{too_little, enough, text-fits}
use Rattle.packet_text.proofs.put_packet.Goals as goal

pub returns-then-out-bytes : goal.returns-then-out-bytes
unfolding shown_left
returns-then-out-bytes c = let l = c.lay_packet-needed.ensures in
    record {
      shown = rw c.at.ensures (too_little _ _ _ _ _ _ l.0 c.if-out-bytes.true);
      fits = text-fits _ _ _ _ l.0 l.2;
    }

pub returns : goal.returns
unfolding shown_left
returns c = let first = c.lay_packet-needed.ensures in
    let l = c.lay_packet.ensures in
    record {
      shown = enough _ _ _ _ _ _ first.0 c.if-out-bytes.false _ _ _ l.0 l.1;
      fits = text-fits _ _ _ _ first.0 first.2;
    }
