use Prim.Native.Nat.{◌^◌, ◌<◌}
use borrow.Author.Rules.{rules}
use Rattle.lbpdis_output.proofs.PartLaws.{framed, framed-fits}
use Rattle.lbpdis_output.proofs.put_framed.Goals as goal

pub returns : goal.returns
returns c = let i : c.args.i < 2 ^ 64 = search rules in
    let n : c.args.n < 2 ^ 64 = search rules in
    let e = rw c.in_frame.ensures at c.put_text-laid.ensures in
    (framed _ _ c.args.rest.now _ _ _ _ _ _ _ c.put_line-at.ensures e.0 e.1, framed-fits _ _ c.args.rest.now _ i n e.2)
