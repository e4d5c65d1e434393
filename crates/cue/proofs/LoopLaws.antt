-- One record more of a list, with the packets so far: what both passes' loops keep.
use Prim.Native.Nat.{ℕ, zero, suc, ◌+◌, ◌-◌, ◌*◌, ◌≤◌, ◌<◌}
use mathlib.Core.Path.{◌≡◌, refl, sym, ap, ◌∙◌}
use mathlib.Core.List.{List, [], ◌∷◌, append_assoc}
use mathlib.Core.Bool.{Bool, false}
use native.Mathlib.Omega.{arith}
use lib.ListN.{length, take, drop, length-append, length-take, length-drop, length-map}
use lib.Seq.{take_all}
use Rattle.lbp16.specs.Answer.{Answer}
use Rattle.packet.specs.Step.{Step}
use Rattle.packet.specs.Rules.{first}
use Rattle.packet.specs.Command.{limit, pick_kind}
use Rattle.cue.specs.Records.{Listed, refused, records, records_of, records_from, record_refusals, record_step}
use Rattle.cue.specs.Records.{record_kind, record_bytes, record_at, with_record, listed_at, most_records}
use Rattle.cue.specs.Packing.{pack_from, packets}
use Rattle.cue.specs.Output.{output_of}
use Rattle.cue.specs.declared.records.Record.{Record}
use Rattle.cue.specs.Compile.{packed, output, bytes_of_output, needed}
use Rattle.cue.specs.Summary.{Progress, none, some, summary, turned_by}
use Rattle.cue.specs.Inside.{onward, Planned, planned, Roomy}
use Rattle.cue.specs.declared.packer.Packer.{Packer}
use Rattle.cue.proofs.PackingLaws.{record_bytes_le}
use Rattle.cue.proofs.WalkLaws.{records-next, records-end}
use Rattle.cue.proofs.ReadingLaws.{Passing, passing}
use Rattle.cue.proofs.PackerLaws.{Fine, Following, next, grown, output-append, output-one, advance, finished}

-- what the first pass answers
unfoldable pub plan_answer : Planned → Answer
plan_answer (Planned.refused n i) = Answer.refused n i
plan_answer (Planned.packed css) = Answer.accepted (length (bytes_of_output css) ∷ length css ∷ [])

-- records still to come, and the list's end
pub onward-next : (s : Progress) (x : Step) (xs : List Step) → onward s (x ∷ xs) ≡ onward (advance s x) xs
unfolding onward advance pack_from packets
onward-next none x xs = refl
onward-next (some css o) x xs = rw append_assoc refl

pub onward-end : (s : Progress) → onward s [] ≡ finished s
unfolding onward finished pack_from packets
onward-end none = refl
onward-end (some css o) = refl

planned-more : (s : Progress) (x : Step) (v : Listed) → planned s (with_record x v) ≡ planned (advance s x) v
unfolding planned with_record
planned-more s x (refused n i) = refl
planned-more s x (records xs) = ap Planned.packed (onward-next s x xs)

-- past a good record, at a refused one, and at the end
module _ (fuel index : ℕ) (s : Progress) where
  pub planned-next : (rest : List ℕ) → 0 < length rest → first (record_refusals index rest) ≡ 0
      → planned s (records_from (suc fuel) index rest)
      ≡ planned (advance s (record_step rest)) (records_from fuel (index + 1) (drop (record_bytes (record_kind rest)) rest))
  planned-next rest h e = rw (records-next fuel index rest h e) (planned-more s _ _)

  pub planned-refused : (rest : List ℕ) → 0 < length rest → (first (record_refusals index rest) ≡ 0 → ⊥)
      → planned s (records_from (suc fuel) index rest) ≡ Planned.refused (first (record_refusals index rest)) index
  unfolding records_from planned
  planned-refused [] h e = absurd (omega arith)
  planned-refused (b ∷ bs) h e = go (first (record_refusals index (b ∷ bs))) _ e
    where
      go : (n : ℕ) (v : Listed) → (n ≡ 0 → ⊥) → planned s (listed_at n index v) ≡ Planned.refused n index
      go zero v h = absurd (h refl)
      go (suc n) v h = refl

  pub planned-end : (rest : List ℕ) → length rest ≡ 0 → planned s (records_from fuel index rest) ≡ Planned.packed (finished s)
  unfolding planned
  planned-end [] h = rw (records-end fuel index, onward-end) refl
  planned-end (b ∷ bs) h = absurd (omega arith)

-- What holds before a record: the packets so far, and the packer that follows them.
pub record Held (list rest : List ℕ) (index : ℕ) (s : Progress) (p : Packer) : Type 0 where
  pub fuel : ℕ
  pub enough : length rest ≤ fuel
  pub same : planned none (records_of list) ≡ planned s (records_from fuel index rest)
  pub following : Following s p
  pub few : index ≤ most_records
  pub count : p.count ≤ 127
  pub packet : p.packet ≤ limit + 1
  pub reply : p.reply ≤ limit
  pub end : p.end ≤ 18 * index
  pub packets : p.packets ≤ index

-- the same, of some packets
pub record Holding (list rest : List ℕ) (index : ℕ) (p : Packer) : Type 0 where
  pub s : Progress
  pub held : Held list rest index s p

pub held_first : (list : List ℕ) (p : Packer) → p ≡ summary none false → Held list list 0 none p
unfolding records_of summary
held_first list p e =
    record {
      fuel = length list;
      enough = omega arith;
      same = refl;
      following = record { unlock = false; packer = e; rising = tt };
      few = omega arith;
      count = rw e (omega arith);
      packet = rw e (omega arith);
      reply = rw e (omega arith);
      end = rw e (omega arith);
      packets = rw e (omega arith);
    }

pub roomy : {list rest : List ℕ} {index : ℕ} {s : Progress} {p : Packer} → Held list rest index s p → Roomy p
roomy h =
    record {
      count = h.count;
      packet = h.packet;
      reply = h.reply;
      end = omega (arith, h.few, h.end);
      packets = omega (arith, h.few, h.packets);
    }

pub held_next : (list rest : List ℕ) (index : ℕ) (s : Progress) (p : Packer) → Held list rest index s p → 0 < length rest
    → first (record_refusals index rest) ≡ 0
    → Held list (drop (record_bytes (record_kind rest)) rest) (index + 1) (advance s (record_step rest)) (turned_by p (record_at rest))
held_next list rest index s p h l e = go h.fuel h.enough h.same
  where
    x : Step
    x = record_step rest

    w : Passing index rest
    w = passing index rest e

    go : (k : ℕ) → length rest ≤ k → planned none (records_of list) ≡ planned s (records_from k index rest)
        → Held list (drop (record_bytes (record_kind rest)) rest) (index + 1) (advance s x) (turned_by p (record_at rest))
    go zero n q = absurd (omega arith)
    go (suc k) n q =
        let f : Fine x = record { good = w.good; plain = w.plain; wide = w.wide } in
        let g = grown p (record_at rest) in
        let few : index < most_records = omega (arith, h.few, w.few) in
        record {
          fuel = k;
          enough = rw length-drop (omega (arith, record_bytes_le (record_kind rest)));
          same = q ∙ planned-next k index s rest l e;
          following = rw (w.read, h.following.packer) (next s _ x f h.following.rising);
          few = omega arith;
          count = g.count;
          packet = omega (arith, g.packet);
          reply = g.reply;
          end = omega (arith, g.end, h.end);
          packets = omega (arith, g.packets, h.packets);
        }

-- the packer's numbers at the list's end
pub end_is : (s : Progress) (u : Bool) → (summary s u).end ≡ length (bytes_of_output (finished s))
unfolding summary finished bytes_of_output output_of
end_is none u = refl
end_is (some css o) u = rw (output-append, length-append, output-one) (omega arith)

packets-is : (s : Progress) (u : Bool) → (summary s u).packets ≡ length (finished s)
unfolding summary finished
packets-is none u = refl
packets-is (some css o) u = rw length-append refl

-- what the first pass comes to is what the list needs
pub needs : (v : Listed) → plan_answer (planned none v) ≡ needed v
unfolding plan_answer planned onward needed output packed bytes_of_output
needs (refused n i) = refl
needs (records xs) = rw length-map refl

module _ (list rest : List ℕ) (index : ℕ) (s : Progress) (p : Packer) (h : Held list rest index s p) where
  pub plan-refused : (n : ℕ) → 0 < length rest → n ≡ first (record_refusals index rest) → (n ≡ 0 → ⊥)
      → Answer.refused n index ≡ needed (records_of list)
  unfolding plan_answer
  plan-refused n l e z = go h.fuel h.enough h.same ∙ needs (records_of list)
    where
      go : (k : ℕ) → length rest ≤ k → planned none (records_of list) ≡ planned s (records_from k index rest)
          → Answer.refused n index ≡ plan_answer (planned none (records_of list))
      go zero m q = absurd (omega arith)
      go (suc k) m q = rw (q, planned-refused k index s rest l (rw e at z), ← e) refl

  -- at the list's end the packets are those so far
  pub at-end : length rest ≡ 0 → planned none (records_of list) ≡ Planned.packed (finished s)
  at-end l = h.same ∙ planned-end h.fuel index s rest l

  pub plan-ended : length rest ≡ 0 → Answer.accepted (p.end ∷ p.packets ∷ []) ≡ needed (records_of list)
  unfolding plan_answer
  plan-ended l =
      let e : Answer.accepted (p.end ∷ p.packets ∷ []) ≡ plan_answer (planned none (records_of list)) =
      rw (at-end l, h.following.packer, end_is, packets-is) refl in
      e ∙ needs (records_of list)

-- a turn of either loop, as the code makes it
module _ (list rest : List ℕ) (index number n : ℕ) (s : Progress) (p : Packer) (r : Record) (h : Held list rest index s p)
    (l : length rest ≡ 0 → ⊥) (e : number ≡ first (record_refusals index rest)) (z : number ≡ 0) (a : r ≡ record_at rest)
    (b : n ≡ record_bytes (pick_kind r.write)) where
  bytes_same : n ≡ record_bytes (record_kind rest)
  unfolding record_at record_kind
  bytes_same = b ∙ ap (λ (s : Record). record_bytes (pick_kind s.write)) a

  pub bytes_whole : n ≤ length rest
  unfolding record_step
  bytes_whole = rw bytes_same (passing index rest (sym e ∙ z)).bytes

  pub bytes-some : 1 ≤ n
  bytes-some = rw bytes_same (omega (arith, record_bytes_le (record_kind rest)))

  pub held-again : (q : Packer) → q ≡ turned_by p r → Held list (take (length rest - n) (drop n rest)) (index + 1) (advance s (record_step rest)) q
  held-again q d =
      let whole : take (length rest - n) (drop n rest) ≡ drop n rest =
      take_all (length rest - n) (drop n rest) (rw length-drop (omega arith)) in
      rw (whole, bytes_same, d, a) (held_next list rest index s p h (omega arith) (sym e ∙ z))

  pub shorter : length (take (length rest - n) (drop n rest)) < length rest
  shorter =
      let some = bytes-some in
      let whole = bytes_whole in
      rw (length-take, length-drop) (omega arith)
