use Rattle.std.proofs.Common.{sym, ap, rules, ◌∙◌, Some}
use Rattle.cue_text.specs.Inside.{located}
use Rattle.cue_text.proofs.KnownLaws.{name-here, name-next, name-none, stands-at}
use Rattle.cue_text.proofs.known.place_of.Goals as goal

pub returns-then-same : goal.returns-then-same
returns-then-same c = let a = c.args in
    let e = sym (rw c.name_kept.ensures at c.same.ensures) ∙ c.if-same.true in
    ap Some c.place_kept.ensures ∙ stands-at _
    ∙ ap located (sym (name-here a.text.now a.table.now a.name.now c.loop-x.x-index (search rules) e) ∙ c.loop-x.invariant)

pub loop-x-preserved : goal.loop-x-preserved
loop-x-preserved c = let a = c.args in
    let e = sym (rw c.name_kept.ensures at c.same.ensures) ∙ c.if-same.false in
    sym (name-next a.text.now a.table.now a.name.now c.loop-x.x-index (search rules) e) ∙ c.loop-x.invariant

pub returns : goal.returns
unfolding located
returns c = let a = c.args in
    ap located (sym (name-none a.text.now a.table.now a.name.now c.loop-x.x-index (search rules)) ∙ c.loop-x.invariant)
