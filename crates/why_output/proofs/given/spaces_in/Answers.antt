use mathlib.Core.Path.{◌∙◌}
use Rattle.why_output.specs.Given.{spaces_in}
use Rattle.why_output.proofs.given.spaces_in.Goals as goal

pub returns : goal.returns
unfolding spaces_in
returns c = λ i. record {
  registers = record {
    at =
        (c.new.ensures ∙ c.quad_at.ensures) i;
  };
  eeprom = record {
    at =
        (c.new-2.ensures ∙ c.quad_at-2.ensures) i;
  };
  status = record {
    at =
        (c.new-3.ensures ∙ c.quad_at-3.ensures) i;
  };
  information = record {
    at =
        (c.new-4.ensures ∙ c.quad_at-4.ensures) i;
  };
}
