use Rattle.text.specs.Number.{ascii}
use Rattle.packet_text.specs.Wording.{command_text, command_shown}
use Rattle.text.proofs.RoomLaws.{put_then}
use Rattle.packet_text.proofs.command.put_command.Goals as goal

pub returns : goal.returns
unfolding command_text command_shown ascii
returns c = let last = c.last_place.ensures in
    let shown = c.front-shown.ensures in
    let bytes = c.bytes_named-k.ensures in
    let rest = c.rest-rest.ensures in
    put_then _ _ _ _
    (put_then _ _ _ _
    (put_then _ _ _ _ (rw (last, shown, bytes, rest) at c.span-at.ensures) c.put-at.ensures)
    (rw (shown, bytes, rest) at c.bytes-at.ensures))
    (rw rest at c.described.ensures)
