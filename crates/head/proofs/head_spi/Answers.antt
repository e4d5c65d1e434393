use Rattle.head.specs.Exports.{export_spi}
use Rattle.head.proofs.ExportLaws.{spi_left_lem, spi_bounded}
use Rattle.head.proofs.ListingLaws.{verdict_numbers}
use Rattle.head.proofs.head_spi.Goals as goal

-- a lemma's facts, as the clauses have names
named2 : {A B R : Type 0} → (A → B → R) → A × B → R
named2 f h = f h.0 h.1

pub returns : goal.returns
unfolding export_spi
returns c = let done = c.burst.ensures in
    named2 (λ h0 h1. record { left = h0; bounded = h1 }) ((
      spi_left_lem _ _ _ _ _ done.left (verdict_numbers _ c.numbers_of-given.ensures),
      spi_bounded _ _ _ _ _ _ _ done.left done.bounded (verdict_numbers _ c.numbers_of-given.ensures),
    ))
