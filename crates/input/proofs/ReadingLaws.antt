-- What a caller needs of a read.
use Rattle.std.proofs.Common.{ℕ, ◌+◌, ◌≡◌, List, ◌++◌, take, drop, ap, ◌∙◌, subst, sym}
use Rattle.std.proofs.Math.Seq.{take-add}
use Rattle.std.proofs.KnownBytes.{Consumes-trans}
use Rattle.std.specs.declared.option.Option.{Option}
use Rattle.std.specs.Io.KnownBytes.{Consumes}

-- two reads, the second behind what the first left
pub more-came : (a b c : Option (List ℕ)) (n k : ℕ) (room after : List ℕ) → take n after ≡ take n room → Consumes a b (take n room)
    → Consumes b c (take k (drop n after)) → Consumes a c (take (n + k) after)
more-came a b c n k room after front first second =
    let joined : take (n + k) after ≡ take n room ++ take k (drop n after) = take-add n k after ∙ ap (λ l. l ++ take k (drop n after)) front in
    subst (Consumes a c) (sym joined) (Consumes-trans a b c _ _ first second)
