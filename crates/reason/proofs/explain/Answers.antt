use mathlib.Core.Path.{◌≡◌, sym, ◌∙◌}
use native.Mathlib.Omega.{arith}
use Rattle.reason.specs.Reason.{unnamed, explained, reason_listed}
use Rattle.reason.proofs.ReasonLaws.{explained-bad, explained-fine, front-accepted}
use Rattle.reason.proofs.explain.Goals as goal

pub returns-then-bad_state : goal.returns-then-bad_state
unfolding reason_listed unnamed
returns-then-bad_state c =
    let e : c.no_command.result ≡ explained c.args.packet.now c.args.store.now c.args.p =
    rw (c.no_command.ensures, c.number.ensures) (explained-bad _ _ _ (sym c.bad_state.ensures ∙ c.if-bad_state.true)) in
    record {
      explained = e;
      refused = rw (c.no_command.ensures, c.number.ensures) (omega arith);
      front = front-accepted _ _ _ _ e;
    }

pub returns : goal.returns
returns c = let e = c.explain_packet.ensures.told ∙ explained-fine _ _ _ (sym c.bad_state.ensures ∙ c.if-bad_state.false) in
    record {
      explained = e;
      refused = c.explain_packet.ensures.refused;
      front = front-accepted _ _ _ _ e;
    }
