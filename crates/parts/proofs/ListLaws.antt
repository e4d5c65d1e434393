-- Laws of a list's records and packets, one record more.
use Prim.Native.Nat.{ℕ, zero, suc, ◌+◌, ◌≤◌, ◌<◌}
use mathlib.Core.Path.{◌≡◌, refl, sym, ap, ◌∙◌}
use mathlib.Core.List.{List, [], ◌∷◌, ◌++◌, append_assoc, append-nil}
use native.Mathlib.Omega.{arith}
use lib.ListN.{length, drop, length-drop}
use Rattle.packet.specs.Step.{Step}
use Rattle.packet.specs.Rules.{first}
use Rattle.cue.specs.Records.{Listed, records, refused, records_from, record_kind, record_bytes, record_step, record_refusals, with_record}
use Rattle.cue.specs.Packing.{Command, turn, pack_from, packets}
use Rattle.cue.proofs.PackingLaws.{record_bytes_le}
use Rattle.cue.proofs.WalkLaws.{Remains, remains-none, remains-next}
use Rattle.parts.specs.Rule.{Opened, none, some, closes, opens, last_of, closed_from, good_then, good_from}

-- records before those of a list
unfoldable pub with_records : List Step → Listed → Listed
with_records [] v = v
with_records (x ∷ xs) v = with_record x (with_records xs v)

pub with_snoc : (xs : List Step) (x : Step) (v : Listed) → with_records (xs ++ (x ∷ [])) v ≡ with_records xs (with_record x v)
unfolding with_records
with_snoc [] x v = refl
with_snoc (y ∷ xs) x v = ap (with_record y) (with_snoc xs x v)

pub with_refused : (xs : List Step) (n i : ℕ) → with_records xs (refused n i) ≡ refused n i
unfolding with_records with_record
with_refused [] n i = refl
with_refused (x ∷ xs) n i = rw (with_refused xs n i) refl

pub with_records_lem : (xs ys : List Step) → with_records xs (records ys) ≡ records (xs ++ ys)
unfolding with_records with_record
with_records_lem [] ys = refl
with_records_lem (x ∷ xs) ys = rw (with_records_lem xs ys) refl

-- one record more, and the packets of all
-- the packet that is open after the records
unfoldable pub open_after : Opened → List Step → Opened
open_after o [] = o
open_after o (x ∷ xs) = open_after (opens o x) xs

pub closed-append : (o : Opened) (xs ys : List Step) → closed_from o (xs ++ ys) ≡ closed_from o xs ++ closed_from (open_after o xs) ys
unfolding closed_from open_after
closed-append o [] ys = refl
closed-append o (x ∷ xs) ys = rw (closed-append (opens o x) xs ys, append_assoc) refl

pub open_append : (o : Opened) (xs ys : List Step) → open_after o (xs ++ ys) ≡ open_after (open_after o xs) ys
unfolding open_after
open_append o [] ys = refl
open_append o (x ∷ xs) ys = open_append (opens o x) xs ys

pub closed_snoc : (o : Opened) (xs : List Step) (x : Step)
    → closed_from o (xs ++ (x ∷ [])) ≡ closed_from o xs ++ closes (open_after o xs) x
unfolding closed_from
closed_snoc o xs x = closed-append o xs (x ∷ []) ∙ rw append-nil refl

pub open_snoc : (o : Opened) (xs : List Step) (x : Step) → open_after o (xs ++ (x ∷ [])) ≡ opens (open_after o xs) x
unfolding open_after
open_snoc o xs x = open_append o xs (x ∷ [])

packets-from : (o : Opened) (xs : List Step) → List (List Command)
packets-from o xs = closed_from o xs ++ last_of (open_after o xs)

packets-some : (o : Rattle.cue.specs.Packing.Open) (xs : List Step) → pack_from o xs ≡ packets-from (some o) xs
unfolding pack_from packets-from closed_from open_after last_of closes opens
packets-some o [] = refl
packets-some o (x ∷ xs) = rw (packets-some (turn o x).open? xs, append_assoc) refl

-- The packing rule's packets are those that the records close, and the one that the list's end closes.
pub packets_are : (xs : List Step) → packets xs ≡ closed_from none xs ++ last_of (open_after none xs)
unfolding packets closed_from open_after last_of closes opens packets-from
packets_are [] = refl
packets_are (x ∷ xs) = packets-some _ xs

-- past a good record, and at a refused one
module _ (fuel index : ℕ) where
  pub good-next : (rest : List ℕ) → 0 < length rest → first (record_refusals index rest) ≡ 0
      → good_from (suc fuel) index rest
      ≡ record_step rest ∷ good_from fuel (index + 1) (drop (record_bytes (record_kind rest)) rest)
  unfolding good_from good_then
  good-next [] h e = absurd (omega arith)
  good-next (b ∷ bs) h e = rw e refl

  pub records-refused : (rest : List ℕ) (n : ℕ) → 0 < length rest → first (record_refusals index rest) ≡ suc n
      → records_from (suc fuel) index rest ≡ refused (suc n) index
  unfolding records_from
  records-refused [] n h e = absurd (omega arith)
  records-refused (b ∷ bs) n h e = rw e refl

  pub good-refused : (rest : List ℕ) (n : ℕ) → 0 < length rest → first (record_refusals index rest) ≡ suc n
      → good_from (suc fuel) index rest ≡ []
  unfolding good_from good_then
  good-refused [] n h e = absurd (omega arith)
  good-refused (b ∷ bs) n h e = rw e refl

-- the good records of a list that is not refused are all
pub good-all : (fuel index : ℕ) (rest : List ℕ) (xs : List Step) → length rest ≤ fuel → Remains index rest xs
    → good_from fuel index rest ≡ xs
unfolding good_from
good-all zero index [] xs h r = sym (remains-none r refl)
good-all zero index (b ∷ bs) xs h r = absurd (omega arith)
good-all (suc fuel) index [] xs h r = sym (remains-none r refl)
good-all (suc fuel) index (b ∷ bs) xs h r =
    let n = remains-next r (λ e. omega arith) in
    let s = record_bytes_le (record_kind (b ∷ bs)) in
    let shorter : length (drop (record_bytes (record_kind (b ∷ bs))) (b ∷ bs)) ≤ fuel = rw length-drop (omega arith) in
    good-next fuel index (b ∷ bs) (omega arith) n.fine
    ∙ ap (λ (ys : List Step). record_step (b ∷ bs) ∷ ys) (good-all fuel (index + 1) _ n.later shorter n.remains)
    ∙ sym n.same
