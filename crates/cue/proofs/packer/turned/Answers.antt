use mathlib.Core.Path.{sym, ◌∙◌, ap}
use native.Mathlib.Omega.{arith}
use Rattle.lbp16.specs.declared.space.Row.{Row}
use Rattle.cue.specs.Summary.{closed_by}
use Rattle.cue.proofs.PackerLaws.{Sized, sized, joined_is, started-is, opened-is, turn-joined, turn-started, turn-closed}
use Rattle.cue.proofs.packer.turned.Goals as goal

pub joined-join-requires : goal.joined-join-requires
joined-join-requires c = let at_element : Sized
    c.args.p
    c.args.r
    c.args.line
    c.counted-bytes.result
    c.counted-answer.result = sized c.requires.0 c.requires.1 c.counted-bytes.ensures.0 c.counted-answer.ensures.0 in
    let z = at_element in (z.roomy, z.small, z.short)

pub agrees-requires : goal.agrees-requires
agrees-requires c = let at_element : Sized
    c.args.p
    c.args.r
    c.args.line
    c.counted-bytes.result
    c.counted-answer.result = sized c.requires.0 c.requires.1 c.counted-bytes.ensures.0 c.counted-answer.ensures.0 in
    let z = at_element in (z.roomy, ap (λ (s : Row). s.element) z.listed)

pub returns-then-agrees-fits : goal.returns-then-agrees-fits
returns-then-agrees-fits c = let at_element : Sized
    c.args.p
    c.args.r
    c.args.line
    c.counted-bytes.result
    c.counted-answer.result = sized c.requires.0 c.requires.1 c.counted-bytes.ensures.0 c.counted-answer.ensures.0 in
    turn-joined _ _ _ _ _
    (joined_is at_element _ c.joined-join.ensures)
    c.agrees.ensures
    c.fits.ensures
    c.if-agrees-fits.true

pub started-start-requires : goal.started-start-requires
started-start-requires c = let at_element : Sized
    c.args.p
    c.args.r
    c.args.line
    c.counted-bytes.result
    c.counted-answer.result = sized c.requires.0 c.requires.1 c.counted-bytes.ensures.0 c.counted-answer.ensures.0 in
    let z = at_element in
    let h = z.roomy.end in (z.roomy.packet, z.roomy.reply, omega arith, z.small, z.short)

pub returns-then-fits : goal.returns-then-fits
returns-then-fits c = let at_element : Sized
    c.args.p
    c.args.r
    c.args.line
    c.counted-bytes.result
    c.counted-answer.result = sized c.requires.0 c.requires.1 c.counted-bytes.ensures.0 c.counted-answer.ensures.0 in
    let z = at_element in
    turn-started _ _ _ _ _ _
    (joined_is z _ c.joined-join.ensures)
    c.agrees.ensures
    c.fits.ensures
    c.if-agrees-fits.false
    (started-is z _ c.started-start.ensures)
    (sym c.fits-2.ensures ∙ c.if-fits.true)

pub closed-requires : goal.closed-requires
closed-requires c = let at_element : Sized
    c.args.p
    c.args.r
    c.args.line
    c.counted-bytes.result
    c.counted-answer.result = sized c.requires.0 c.requires.1 c.counted-bytes.ensures.0 c.counted-answer.ensures.0 in
    at_element.roomy

pub started-requires : goal.started-requires
unfolding closed_by
started-requires c = let at_element : Sized
    c.args.p
    c.args.r
    c.args.line
    c.counted-bytes.result
    c.counted-answer.result = sized c.requires.0 c.requires.1 c.counted-bytes.ensures.0 c.counted-answer.ensures.0 in
    let z = at_element in
    let h = z.roomy.end in rw c.closed.ensures (omega arith, omega arith, omega arith, z.small, z.short)

pub returns : goal.returns
returns c = let at_element : Sized
    c.args.p
    c.args.r
    c.args.line
    c.counted-bytes.result
    c.counted-answer.result = sized c.requires.0 c.requires.1 c.counted-bytes.ensures.0 c.counted-answer.ensures.0 in
    let z = at_element in
    turn-closed _ _ _ _ _ _ _
    (joined_is z _ c.joined-join.ensures)
    c.agrees.ensures
    c.fits.ensures
    c.if-agrees-fits.false
    (started-is z _ c.started-start.ensures)
    (sym c.fits-2.ensures ∙ c.if-fits.false)
    (opened-is z _ _ c.closed.ensures c.started.ensures)
