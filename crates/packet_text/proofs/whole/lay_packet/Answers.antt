use native.Mathlib.Omega.{arith}
use lib.ListN.{take}
use Rattle.packet_text.specs.Packet.{lines_text, refusal_text}
use Rattle.packet_text.proofs.PacketLaws.{none-accepts, some-is, some-refuses, accepted-text, refused-text, refused-pointers, laid_join}
use Rattle.packet_text.proofs.whole.lay_packet.Goals as goal

pub lay_accepted-requires : goal.lay_accepted-requires
lay_accepted-requires c = let a = none-accepts _ _ _ c.requires.0 c.in_default.is in
    (a.short, (a.end, a.judged))

pub returns-in_default : goal.returns-in_default
returns-in_default c = let a = none-accepts _ _ _ c.requires.0 c.in_default.is in
    let l = c.lay_accepted.ensures in
    (rw (accepted-text _ _ a) at l.0, rw (← a.verdict) at l.1, l.2)

pub lay_refusal-n-requires : goal.lay_refusal-n-requires
lay_refusal-n-requires c = (c.args.p, some-is _ _ _ c.requires.0 _ c.in-Some.is)

pub lay_lines-lines-requires : goal.lay_lines-lines-requires
lay_lines-lines-requires c = let h = some-refuses _ _ _ c.requires.0 _ c.in-Some.is c.requires.1 in
    rw c.front.ensures (h.short, h.front)

pub overflow_add-result : goal.overflow_add-result
overflow_add-result c = let h = (some-refuses _ _ _ c.requires.0 _ c.in-Some.is c.requires.1).short in
    let few = rw c.front.ensures at c.lay_lines-lines.ensures.2 in
    let more = c.lay_refusal-n.ensures.2 in
    omega arith

pub returns : goal.returns
returns c = let e = some-is _ _ _ c.requires.0 _ c.in-Some.is in
    let h = some-refuses _ _ _ c.requires.0 _ c.in-Some.is c.requires.1 in
    let l = rw c.front.ensures at c.lay_lines-lines.ensures.0 in
    let t = c.lay_refusal-n.ensures in
    let lines = lines_text c.args.p (take c.in-Some.r.place c.args.packet.now) in
    let whole = laid_join lines (refusal_text c.args.packet.now c.in-Some.r) _ _ _ _ _ l t.0 t.1 in
    let few = rw c.front.ensures at c.lay_lines-lines.ensures.2 in
    (rw (refused-text _ _ _ e h) at whole, refused-pointers _ _ _ e h, omega (arith, few, t.2, h.short))
