use Rattle.text.proofs.RoomLaws.{put_then}
use Rattle.why_output.proofs.WholeLaws.{input_long, input_hex, input_bytes}
use Rattle.why_output.proofs.put_input.Goals as goal

pub returns-then-input-gt-MOST : goal.returns-then-input-gt-MOST
returns-then-input-gt-MOST c = let a = c.args in
    rw (input_long a.w a.input.now a.p c.if-input-gt-MOST.true) c.too_long.ensures

pub returns-then-w : goal.returns-then-w
returns-then-w c = let a = c.args in
    rw (input_hex a.w a.input.now a.p c.if-input-gt-MOST.false c.if-w.true) c.put_hex.ensures

pub returns : goal.returns
returns c = let a = c.args in
    rw (input_bytes a.w a.input.now a.p c.if-input-gt-MOST.false c.if-w.false)
    (put_then _ _ _ _ c.put_bytes-at.ensures c.put_hex_hint.ensures)
