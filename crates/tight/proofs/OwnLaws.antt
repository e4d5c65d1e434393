-- The packing rule's own output is always accepted.
use Prim.Native.Nat.{ℕ}
use mathlib.Core.Path.{◌≡◌, refl, ◌∙◌}
use mathlib.Core.List.{List, [], ◌++◌, map}
use native.Mathlib.Omega.{arith}
use lib.ListN.{length}
use Rattle.packet.specs.Step.{Step}
use Rattle.cue.specs.Records.{records, records_of}
use Rattle.cue.specs.Packing.{Command, bytes_of_packet, packet_steps}
use Rattle.cue.specs.Compile.{packed, output}
use Rattle.cue.proofs.Relations.{Good}
use Rattle.cue.proofs.RecordLaws.{records-good}
use Rattle.cue.proofs.PackingLaws.{Kept, Packed, packing_keeps}
use Rattle.cue.proofs.ReadBack.{read-from}
use Rattle.cue.proofs.RunAll.{good-split}
use Rattle.cue.proofs.Demand3.{apart-packed}
use Rattle.tight.specs.Tight.{steps, packet_does, both, packets_do, without_unlocks, accepted, checked}
use Rattle.tight.proofs.PointerLaws.{all-does}
use Rattle.tight.proofs.MixedLaws.{without_append, without_mixed, without_info}
use Rattle.tight.proofs.CheckedLaws.{let_through, is-accepted}

-- a packet of the packing rule gives every command its address
kept-does : (cs : List Command) (xs : List Step) → Kept cs xs → Good xs → packet_does (bytes_of_packet cs) ≡ steps (packet_steps cs)
kept-does cs xs k g =
    all-does (bytes_of_packet cs) (packet_steps cs) k.short (read-from cs k.sound k.reply)
    (without_info (packet_steps cs) (rw (without_mixed k.mixed g) g))

-- The steps of its packets, unlock writes left out, are the records.
packed-does : {css : List (List Command)} {xs : List Step} → Packed css xs → Good xs
    → (ss : List Step) × (packets_do (map bytes_of_packet css) ≡ steps ss) × (without_unlocks ss ≡ xs)
unfolding packets_do both without_unlocks
packed-does Packed.none g = ([], refl, refl)
packed-does (Packed.more {cs = cs} {xs = xs} {ys = ys} k p) g =
    let (gx, gy) = good-split xs ys g in
    let (ts, does, same) = packed-does p gy in
    let ss = packet_steps cs in
    (ss ++ ts, rw (kept-does cs xs k gx, does) refl, without_append ss ts ∙ rw (without_mixed k.mixed gx, same))

pub own-accepted : (list : List ℕ) (xs : List Step) → records_of list ≡ records xs
    → checked list (output xs) ≡ accepted (length (packed xs))
unfolding packed
own-accepted list xs e =
    let g = records-good list xs e in
    let (ss, does, same) = packed-does (packing_keeps xs g) g in
    let (accepts, set) = let_through (packed xs) ss does in
    is-accepted list (output xs) (length (packed xs))
    (record {
      xs = xs;
      list-records = e;
      packets = packed xs;
      packet-count = refl;
      sound = apart-packed xs g;
      done = ss;
      accepts = accepts;
      set = set;
      same = same;
      short = omega arith;
    })
