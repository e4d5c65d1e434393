-- Demand 3 of a list in parts.
use Prim.Native.Nat.{ℕ, ◌+◌}
use mathlib.Core.Path.{◌≡◌, refl, sym, ap, ◌∙◌}
use mathlib.Core.List.{List, [], ◌∷◌, ◌++◌, append-nil}
use native.Mathlib.Omega.{arith}
use lib.ListN.{length, length-append, length-map}
use lib.Seq.{take_all}
use Rattle.packet.specs.Step.{Step}
use Rattle.cue.specs.Records.{records, records_of}
use Rattle.cue.specs.Packing.{Command, packets}
use Rattle.cue.specs.Compile.{packed, output}
use Rattle.cue.specs.Compile.{bytes_of_output}
use Rattle.cue.proofs.RecordLaws.{records-good}
use Rattle.cue.proofs.PackerLaws.{output-append, output-one}
use Rattle.cue.proofs.RunAll.{run_all}
use Rattle.cue.proofs.Demand3.{packets_hold, apart-packed}
use Rattle.parts.specs.Rule.{packets_by, packets_of}
use Rattle.parts.specs.Promise.{Demand3InParts}
use Rattle.parts.proofs.HoldLaws.{held_all}
use Rattle.parts.proofs.FollowLaws.{Placed}

-- a packet's output has its mark and length
pub output-more : (cs : List Command) (css : List (List Command))
    → length (bytes_of_output (cs ∷ css)) ≡ length (bytes_of_output (cs ∷ [])) + length (bytes_of_output css)
output-more cs css = ap length (output-append (cs ∷ []) css) ∙ length-append (bytes_of_output (cs ∷ [])) (bytes_of_output css)

-- where all the output is out, no packet is still to come
none-later : (css later : List (List Command)) → bytes_of_output css ≡ bytes_of_output (css ++ later) → later ≡ []
none-later css [] e = refl
none-later css (cs ∷ later) e =
    let n : length (bytes_of_output css) ≡ length (bytes_of_output css) + length (bytes_of_output (cs ∷ later)) =
    ap length e ∙ rw (output-append, length-append) refl in
    absurd (omega (arith, output-more cs later, output-one cs))

demand3-of : (list out : List ℕ) (xs : List Step) (css : List (List Command)) → records_of list ≡ records xs → css ≡ packets xs
    → out ≡ bytes_of_output css → Demand3InParts list out css
unfolding packed output bytes_of_output
demand3-of list out xs css e c all =
    let good = records-good list xs e in
    let whole : out ≡ output xs = all ∙ rw c refl in
    record {
      demand3 =
          record {
            xs = xs;
            list-records = e;
            packets = rw (take_all (length out) out (omega arith), whole) (apart-packed xs good);
            packet-count = rw (c, length-map) refl;
            same = run_all (packed xs) xs (packets_hold xs good) good;
          };
      all = rw c (held_all good);
    }

-- Demand 3, where all of a good list's output is out.
pub demand3_in_parts : (list out : List ℕ) (p : Placed list out) (xs : List Step) → records_of list ≡ records xs
    → out ≡ bytes_of_output (packets xs) → Demand3InParts list out p.packets
unfolding packets_of packets_by
demand3_in_parts list out p xs e all =
    let whole : packets xs ≡ p.packets ++ p.later = rw e at p.front in
    let none = none-later p.packets p.later (sym p.bytes ∙ all ∙ ap bytes_of_output whole) in
    let c : p.packets ≡ packets xs = sym (append-nil p.packets) ∙ rw (← none) (sym whole) in
    demand3-of list out xs p.packets e c p.bytes
