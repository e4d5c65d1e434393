use Rattle.packet.proofs.TableLaws.{register-7, register-8, register-11, register-12, register-none}
use Rattle.packet.proofs.refusal.register_rule.Goals as goal

pub returns-then-f-eq0 : goal.returns-then-f-eq0
returns-then-f-eq0 c p o e = register-7 p o _ _ _ _ c.requires.3 e c.requires.2 c.if-f-eq0.true

pub returns-then-out_of_place : goal.returns-then-out_of_place
returns-then-out_of_place c p o e = register-8 p o _ _ _ _ c.requires.3 e c.requires.2 c.if-f-eq0.false c.if-out_of_place.ensures

pub returns-then-rest-r : goal.returns-then-rest-r
returns-then-rest-r c p o e = register-11 p o _ _ _ _ c.requires.3 e c.requires.2 c.if-f-eq0.false c.if-out_of_place.ensures c.if-rest-r.true

pub returns-then-passes_limit : goal.returns-then-passes_limit
returns-then-passes_limit c p o e =
    register-12 p o _ _ _ _ c.requires.3 e c.requires.2 c.if-f-eq0.false c.if-out_of_place.ensures c.if-rest-r.false c.if-passes_limit.ensures

pub returns : goal.returns
returns c p o e = register-none p o _ _ _ _ c.requires.3 e c.requires.2 c.if-f-eq0.false c.if-out_of_place.ensures c.if-rest-r.false c.if-passes_limit.ensures
