use mathlib.Core.Path.{sym, ◌∙◌}
use mathlib.Core.List.{[]}
use Rattle.packet_text.specs.Packet.{shown_left}
use Rattle.head.proofs.PacketTextExportLaws.{text-refused, text-eight, text-told}
use Rattle.lbp16.proofs.PointerLaws.{lent_back}
use Rattle.head.proofs.packet_text_exports.head_packet_text.Goals as goal

pub returns-then-bad_pointers : goal.returns-then-bad_pointers
returns-then-bad_pointers c = text-refused _ _ _ (sym c.bad_pointers.ensures ∙ c.if-bad_pointers.true)

pub put_pointers-requires : goal.put_pointers-requires
put_pointers-requires c = text-eight [] c.args.pointers.now [] (sym c.bad_pointers.ensures ∙ c.if-bad_pointers.false)

pub returns-in-Ok : goal.returns-in-Ok
unfolding shown_left
returns-in-Ok c = text-told _ _ _ (sym c.bad_pointers.ensures ∙ c.if-bad_pointers.false) _ _ _ _ _ c.from_lent.ensures
    (rw c.in-Ok.is at c.put_packet-shown.ensures.shown) _ c.put_pointers.ensures

pub returns-in-Err : goal.returns-in-Err
unfolding shown_left
returns-in-Err c = let good = sym c.bad_pointers.ensures ∙ c.if-bad_pointers.false in
    text-told _ _ _ good _ _ _ _ _ c.from_lent.ensures (rw (c.in-Err.is, ← c.number.ensures) at c.put_packet-shown.ensures.shown) _
    (rw c.from_lent.ensures (sym (lent_back _ (text-eight [] c.args.pointers.now [] good))))
