use lib.ListN.{length}
use native.Mathlib.Omega.{arith}
use Rattle.parts.proofs.SingleLaws.{one-test, single_taken, single_still}
use Rattle.parts.proofs.Promise.{promise}
use Rattle.parts.proofs.CallLaws.{no_room}
use Rattle.parts.proofs.compile_part.Goals as goal

-- a lemma's facts, as the clauses have names
named2 : {A B R : Type 0} → (A → B → R) → A × B → R
named2 f h = f h.0 h.1

pub returns-then-out-lt-ROOM : goal.returns-then-out-lt-ROOM
returns-then-out-lt-ROOM c = record {
  compiled = rw c.at.ensures (no_room _ _ _ _ c.if-out-lt-ROOM.true);
  promise = λ list at out s calls. promise calls;
}

pub returns-then-part-last : goal.returns-then-part-last
returns-then-part-last c = record {
  compiled = c.called.ensures;
  promise = λ list at out s calls. promise calls;
}

pub bounds-part-0 : goal.bounds-part-0
bounds-part-0 c = let t = one-test (length c.args.part.now) (length c.args.state.now) c.args.last c.if-part-last.false in
    omega (arith, t.0)

pub lengthened-requires : goal.lengthened-requires
lengthened-requires c = (one-test (length c.args.part.now) (length c.args.state.now) c.args.last c.if-part-last.false).2

pub returns-then-lengthened : goal.returns-then-lengthened
returns-then-lengthened c = named2 (λ h0 h1. record { compiled = h0; promise = h1 }) ((
  single_taken _ _ _ _ _ _ c.lengthened.ensures c.if-out-lt-ROOM.false c.if-lengthened.true
      (one-test (length c.args.part.now) (length c.args.state.now) c.args.last c.if-part-last.false),
  λ list at out s calls. promise calls,
))

pub returns : goal.returns
returns c = named2 (λ h0 h1. record { compiled = h0; promise = h1 }) ((
  single_still c.lengthened.ensures c.if-lengthened.false _ _ _ _ _ _ c.called-2.ensures,
  λ list at out s calls. promise calls,
))
