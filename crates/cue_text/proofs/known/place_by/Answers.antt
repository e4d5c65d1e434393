use Rattle.std.proofs.Common.{sym, ◌∙◌}
use Rattle.cue_text.proofs.KnownLaws.{by_both, by-first, by-second}
use Rattle.cue_text.proofs.known.place_by.Goals as goal

pub returns-in_err-space_of : goal.returns-in_err-space_of
returns-in_err-space_of c = c.from_residual.ensures ∙ by-first _ _ (sym c.space_of.ensures ∙ c.in_err-space_of.was)

pub returns-in_err-address_of : goal.returns-in_err-address_of
returns-in_err-address_of c = c.from_residual-in_err-address_of.ensures ∙ by-second _ _ (sym c.address_of.ensures ∙ c.in_err-address_of.was)

pub returns : goal.returns
returns c = by_both _ _ (sym c.space_of.ensures ∙ c.in_ok-space_of.was) (sym c.address_of.ensures ∙ c.in_ok-address_of.was)
