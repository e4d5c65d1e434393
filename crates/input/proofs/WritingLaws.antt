-- What writes leave, one after the other.
use Rattle.std.proofs.Common.{ℕ, ◌≡◌, ◌+◌, ◌-◌, List, length, take, drop, subst, sym}
use Rattle.std.proofs.lemmas.List.{length-drop}
use Rattle.std.proofs.Math.Seq.{take-add, take-length}
use Rattle.std.proofs.KnownBytes.{Appends-trans}
use Rattle.std.specs.declared.option.Option.{Option}
use Rattle.std.specs.Io.KnownBytes.{Appends}

-- two writes, the second of what the first left
pub more_written : (a b c : Option (List ℕ)) (n k : ℕ) (bytes : List ℕ) → Appends a b (take n bytes) → Appends b c (take k (drop n bytes))
    → Appends a c (take (n + k) bytes)
more_written a b c n k bytes first second = subst (Appends a c) (sym (take-add n k bytes)) (Appends-trans a b c _ _ first second)

-- a slice's tail
pub tail_whole : (n : ℕ) (bytes : List ℕ) → take (length bytes - n) (drop n bytes) ≡ drop n bytes
tail_whole n bytes = rw (← length-drop n bytes) (take-length (drop n bytes))
