use borrow.Author.Tests.{lt-ltb}
use Prim.Native.Nat.{◌+◌, ◌<◌}
use native.Mathlib.Omega.{arith}
use mathlib.Core.Path.{refl, sym}
use Rattle.packet.proofs.refusal.passes_end.Goals as goal

pub returns-then-bytes-used : goal.returns-then-bytes-used
returns-then-bytes-used c = let a = c.args in
    let past : a.bytes < a.used + a.span = let h = c.if-bytes-used.true in omega arith in
    sym (lt-ltb _ _ past)

pub overflow_add-result : goal.overflow_add-result
overflow_add-result c = let p = c.requires in let inside = c.if-bytes-used.false in omega (arith, p.0, p.1)

pub returns : goal.returns
returns c = refl
