-- The proof that independent lists do the same in either order.
use Prim.Native.Nat.{ℕ}
use mathlib.Core.Path.{◌≡◌, refl, sym, ap, ◌∙◌}
use mathlib.Core.List.{List}
use native.Mathlib.Omega.{arith}
use Rattle.packet.specs.Step.{Step}
use Rattle.cue.specs.Records.{Listed, refused, records, records_of}
use Rattle.cue.specs.Compile.{packed, output}
use Rattle.cue.proofs.RecordLaws.{refused_record, records-good}
use Rattle.cue.proofs.CompileLaws.{accepted_exactly}
use Rattle.cue.proofs.Demand3.{packets_hold, demand3}
use Rattle.independent.specs.Independent.{first_clash, compared, independence}
use Rattle.independent.specs.EitherOrder.{CompilesTo, EitherOrder}
use Rattle.independent.proofs.CommuteLaws.{commute}
use Rattle.independent.proofs.PlaceLaws.{all_placed, all-clear}
use Rattle.independent.proofs.TurnLaws.{turned, same_store, unlock-either, count-either}

-- an accepted list compiles to the packing rule's packets
compiles-to : (list : List ℕ) (xs : List Step) → records_of list ≡ records xs → CompilesTo list (packed xs)
unfolding output
compiles-to list xs e =
    record {
      accepted = λ room h. ap (λ c. c.answer) (accepted_exactly list room xs e h);
      left =
          λ room bytes count q.
          let d = demand3 list room bytes count q in
          let f = d.list-records in
          let same : d.xs ≡ xs = cc in
          rw same at d.packets;
    }

either_order : (first second : List ℕ) (xs ys : List Step) → records_of first ≡ records xs → records_of second ≡ records ys
    → (first_clash xs 0 ys).number ≡ 0 → EitherOrder first second
either_order first second xs ys e f clear =
    let gx = records-good first xs e in
    let gy = records-good second ys f in
    let hx = packets_hold xs gx in
    let hy = packets_hold ys gy in
    let ps = packed xs in
    let qs = packed ys in
    let apart = all-clear 0 (all_placed gx) (all_placed gy) clear in
    record {
      ps = ps;
      qs = qs;
      first-packets = compiles-to first xs e;
      second-packets = compiles-to second ys f;
      same =
          λ store p rooms fine ok.
          let m = commute apart store in
          let a = turned ps qs xs ys hx hy gx gy store p (rooms 0) (rooms 1) fine (ok 0) (ok 1) in
          let b = turned qs ps ys xs hy hx gy gx store p (rooms 2) (rooms 3) fine (ok 2) (ok 3) in
          record {
            accepted_forth = a.accepted;
            accepted-back = b.accepted;
            cells =
                same_store _ _ (a.bytes ∙ sym b.bytes) (a.cells ∙ rw m.left (sym b.cells))
                (λ i h k. a.unlock i h k ∙ unlock-either ps qs _ ∙ sym (b.unlock i h k))
                (a.count ∙ count-either ps qs _ ∙ sym b.count);
            first-values = a.one-values ∙ sym m.first ∙ sym b.other-values;
            second-values = a.other-values ∙ m.second ∙ sym b.one-values;
            unlock = a.unlock;
            count = a.count;
          };
    }

-- Lists that are answered with 0 do the same in either order.
pub independent-either_order : (first second : List ℕ) → (independence first second).number ≡ 0 → EitherOrder first second
unfolding independence compared
independent-either_order first second e = go (records_of first) (records_of second) refl refl e
  where
    go : (a b : Listed) → records_of first ≡ a → records_of second ≡ b → (compared a b).number ≡ 0 → EitherOrder first second
    go (refused n i) b p q e = absurd (omega (arith, (refused_record first n i p).in_table))
    go (records xs) (refused n i) p q e = absurd (omega (arith, (refused_record second n i q).in_table))
    go (records xs) (records ys) p q e = either_order first second xs ys p q e
