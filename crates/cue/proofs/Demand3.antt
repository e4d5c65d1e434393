-- The proof of demand 3.
use Prim.Native.Nat.{ℕ}
use mathlib.Core.Path.{◌≡◌, sym, ap, ◌∙◌}
use mathlib.Core.List.{List, [], ◌∷◌, map}
use Rattle.lbp16.specs.Answer.{Answer}
use Rattle.packet.specs.Step.{Step}
use Rattle.cue.specs.Packing.{Command, bytes_of_packet}
use Rattle.cue.specs.Output.{frames, apart}
use Rattle.cue.specs.Compile.{packed, output, compiled}
use Rattle.cue.specs.Demand3.{Demand3}
use Rattle.cue.proofs.Relations.{Good, Holds}
use Rattle.cue.proofs.RecordLaws.{records-good}
use Rattle.cue.proofs.PackingLaws.{Packed, packing_keeps}
use Rattle.cue.proofs.OutputLaws.{apart-output, packets-short}
use Rattle.cue.proofs.CompileLaws.{accepted-list, output-at_front}
use Rattle.cue.proofs.ReadBack.{read_back_lem}
use Rattle.cue.proofs.AnswerLaws.{Both}
use Rattle.cue.proofs.RunAll.{run_all}

-- Each packet of the packing rule is accepted and does its steps, so the packets hold the records.
pub packed-holds : {css : List (List Command)} {xs : List Step} → Packed css xs → Holds (map bytes_of_packet css) xs
packed-holds Packed.none = Holds.none
packed-holds (Packed.more {cs} k p) =
    Holds.more (read_back_lem cs k.sound k.short k.reply) k.mixed (packed-holds p)

pub packets_hold : (xs : List Step) → Good xs → Holds (packed xs) xs
unfolding packed
packets_hold xs g = packed-holds (packing_keeps xs g)

-- The output taken apart is those packets.
pub apart-packed : (xs : List Step) → Good xs → apart (output xs) ≡ frames (packed xs)
unfolding output
apart-packed xs g = apart-output (packed xs) (packets-short xs g)

-- Demand 3, of every list and every room: of what compiling answers and leaves.
pub demand3 : (list room : List ℕ) (bytes count : ℕ) → (compiled list room).answer ≡ Answer.accepted (bytes ∷ count ∷ [])
    → Demand3 list (compiled list room).room bytes count
demand3 list room bytes count e =
    let a = accepted-list list room _ e in
    let xs = a.xs in
    let same = a.same in
    let good = records-good list xs a.list-records in
    record {
      xs = xs;
      list-records = a.list-records;
      packets = rw (output-at_front list room bytes count e xs a.list-records) (apart-packed xs good);
      packet-count = cc;
      same = run_all (packed xs) xs (packets_hold xs good) good;
    }

-- as the code comes to it: what was answered and left is what the definition says
pub demand3-of : (list room : List ℕ) (a : Answer) (room'' : List ℕ) → Both a room'' (compiled list room)
    → (bytes count : ℕ) → a ≡ Answer.accepted (bytes ∷ count ∷ []) → Demand3 list room'' bytes count
demand3-of list room a room'' e bytes count q =
    rw (ap (λ c. c.room) e) (demand3 list room bytes count (sym (ap (λ c. c.answer) e) ∙ q))
