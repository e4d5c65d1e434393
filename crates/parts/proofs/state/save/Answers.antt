use native.Mathlib.Omega.{arith}
use Rattle.parts.proofs.StateLaws.{collected-put, packer-put, saved}
use Rattle.parts.proofs.state.save.Goals as goal

pub put_front-requires : goal.put_front-requires
put_front-requires c = omega (arith, c.requires.0)

pub returns : goal.returns
returns c = saved _ c.args.s.now _ _ _
    c.requires.1
    (collected-put _ _ _ _ _ _ _ _ _ _ _
    c.byte_of.ensures
    c.byte_of-2.ensures
    c.byte_of-3.ensures
    c.byte_of-4.ensures
    c.byte_of-5.ensures
    c.byte_of-6.ensures
    c.byte_of-7.ensures
    c.byte_of-8.ensures
    c.byte_of-9.ensures
    c.byte_of-10.ensures)
    (packer-put _ _ _ _ c.shown-p.ensures c.flag.ensures c.flag-2.ensures)
    c.put_front.ensures
