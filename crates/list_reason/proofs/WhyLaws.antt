-- What is wrong with a list: number and place are the compiler's, the cause holds and is the first, and the records before are good.
use Prim.Native.Nat.{ℕ, ◌-◌, ◌≤◌}
use mathlib.Core.Path.{◌≡◌, refl, sym, ap, ◌∙◌}
use mathlib.Core.Logic.{◌≢◌}
use mathlib.Core.List.{List, [], ◌∷◌}
use native.Mathlib.Omega.{arith}
use lib.ListN.{length, take, drop}
use Rattle.packet.specs.Step.{Step}
use Rattle.packet.specs.Rules.{first}
use Rattle.packet.proofs.RuleLaws.{FirstHolds, first_holds}
use Rattle.packet.proofs.SliceLaws.{tail-whole}
use Rattle.cue.specs.Records.{Listed, refused, records, records_of, record_refusals}
use Rattle.cue.proofs.RecordLaws.{list_bytes, list-bytes}
use Rattle.cue.proofs.PackingLaws.{record_bytes_le}
use Rattle.list_reason.specs.ListReason.{causes_of, offset_of, walked, walked_by, list_why, why_by, FrontGood}
use Rattle.list_reason.specs.ListReason.{Reached}
use Rattle.list_reason.specs.ListReason.{ListWhy}
use Rattle.std.specs.Prelude.{Result, Ok, Err}
use Rattle.list_reason.specs.Listing.{reached_listed}
use Rattle.list_reason.specs.declared.Stopped.{Stopped}
use Rattle.list_reason.proofs.CauseLaws.{some_cause}
use Rattle.list_reason.proofs.FrontLaws.{before}

-- the compiler's number and place
pub refused_why : (list : List ℕ) (n i : ℕ) → records_of list ≡ refused n i → ((list_why list).number ≡ n) × ((list_why list).place ≡ i)
unfolding list_why why_by
refused_why list n i e = rw e (refl, refl)

pub why-refused : (list : List ℕ) → (list_why list).number ≢ 0 → records_of list ≡ refused (list_why list).number (list_why list).place
unfolding list_why why_by
why-refused list = go (records_of list)
  where
    go : (v : Listed) → (why_by list v).number ≢ 0 → v ≡ refused (why_by list v).number (why_by list v).place
    go (refused n i) h = refl
    go (records xs) h = absurd (h refl)

-- nothing is wrong exactly where the compiler would not refuse with 21 to 24
pub good-why : (list : List ℕ) (xs : List Step) → records_of list ≡ records xs → list_why list ≡ record { number = 0; place = 0; offset = 0; cause = 0 }
unfolding list_why why_by
good-why list xs e = rw e refl

pub why-good : (list : List ℕ) → (list_why list).number ≡ 0 → (xs : List Step) × (records_of list ≡ records xs)
unfolding list_why why_by
why-good list = go (records_of list) refl
  where
    go : (v : Listed) → records_of list ≡ v → (why_by list v).number ≡ 0 → (xs : List Step) × (records_of list ≡ records xs)
    go (refused n i) q h = let t = (before list n i q).in_table in absurd (omega arith)
    go (records xs) q h = (xs, q)

-- and then it has no more records than bytes
records-few : (xs : List Step) → length xs ≤ list_bytes xs
unfolding list_bytes
records-few [] = omega arith
records-few (x ∷ xs) = let more = records-few xs in omega (arith, record_bytes_le x.kind)

pub good-few : (list : List ℕ) → (list_why list).number ≡ 0 → (walked list).records ≤ length list
unfolding walked walked_by
good-few list e =
    let (xs, q) = why-good list e in
    let few = records-few xs in
    let within = list-bytes list xs q in
    rw q (omega arith)

-- what holds of every answer
module _ (list : List ℕ) where
  pub caused : 22 ≤ (list_why list).number → 1 ≤ (list_why list).cause
  unfolding list_why why_by
  caused = go (records_of list) refl
    where
      go : (v : Listed) → records_of list ≡ v → 22 ≤ (why_by list v).number → 1 ≤ (why_by list v).cause
      go (refused n i) q h = let b = before list n i q in some_cause i n _ b.number h b.in_table.1
      go (records xs) q h = absurd (omega arith)

  pub front : (list_why list).number ≢ 0 → FrontGood list (list_why list).place (list_why list).offset
  unfolding list_why why_by
  front = go (records_of list) refl
    where
      go : (v : Listed) → records_of list ≡ v → (why_by list v).number ≢ 0 → FrontGood list (why_by list v).place (why_by list v).offset
      go (refused n i) q h = (before list n i q).good
      go (records xs) q h = absurd (h refl)

  pub offset_within : (list_why list).offset ≤ length list
  unfolding list_why why_by
  offset_within = go (records_of list) refl
    where
      go : (v : Listed) → records_of list ≡ v → (why_by list v).offset ≤ length list
      go (refused n i) q = (before list n i q).within
      go (records xs) q = omega arith

  -- the cause holds, and none before it does
  pub cause_first : 22 ≤ (list_why list).number
      → FirstHolds (list_why list).cause (causes_of (list_why list).number (drop (list_why list).offset list))
  unfolding list_why why_by causes_of first
  cause_first h = first_holds _ _ (same (records_of list)) (λ z. let c = caused h in absurd (omega arith))
    where
      same : (v : Listed) → first (causes_of (why_by list v).number (drop (why_by list v).offset list)) ≡ (why_by list v).cause
      same (refused n i) = refl
      same (records xs) = refl

-- as the code comes to it
pub none-stops : (bytes : ℕ) (r : Result ℕ Stopped) → ((s : Stopped) → r ≡ Err s → ⊥) → (reached_listed bytes r).number ≡ 0
none-stops bytes (Ok n) h = refl
none-stops bytes (Err s) h = absurd (h s refl)

module _ (list : List ℕ) (w : Reached) (e : w ≡ walked list) where
  pub walk-good : w.number ≡ 0 → record { number = 0; place = 0; offset = 0; cause = 0 } ≡ list_why list
  unfolding walked walked_by list_why why_by
  walk-good z = go (records_of list) refl (sym (ap (λ (x : Reached). x.number) e) ∙ z)
    where
      go : (v : Listed) → records_of list ≡ v → (walked_by list v).number ≡ 0
          → record { number = 0; place = 0; offset = 0; cause = 0 } ≡ why_by list v
      go (refused n i) q h = let t = (before list n i q).in_table in absurd (omega arith)
      go (records xs) q h = refl

  pub walk-within : w.bytes ≤ length list
  unfolding walked walked_by
  walk-within = rw e (go (records_of list) refl)
    where
      go : (v : Listed) → records_of list ≡ v → (walked_by list v).bytes ≤ length list
      go (refused n i) q = (before list n i q).within
      go (records xs) q = omega arith

  pub walk-bad : (w.number ≡ 0 → ⊥) → (c : ℕ)
      → ((index : ℕ) → first (record_refusals index (take (length list - w.bytes) (drop w.bytes list))) ≡ w.number
      → c ≡ first (causes_of w.number (take (length list - w.bytes) (drop w.bytes list))))
      → record { number = w.number; place = w.records; offset = w.bytes; cause = c } ≡ list_why list
  unfolding walked walked_by list_why why_by
  walk-bad h c told = go (records_of list) refl e
    where
      go : (v : Listed) → records_of list ≡ v → w ≡ walked_by list v
          → record { number = w.number; place = w.records; offset = w.bytes; cause = c } ≡ why_by list v
      go (records xs) q f = absurd (h (ap (λ (x : Reached). x.number) f))
      go (refused n i) q f =
          let a : w.number ≡ n = ap (λ (x : Reached). x.number) f in
          let b : w.records ≡ i = ap (λ (x : Reached). x.records) f in
          let o : w.bytes ≡ offset_of i list = ap (λ (x : Reached). x.bytes) f in
          let t : c ≡ first (causes_of n (drop (offset_of i list) list)) =
          rw (tail-whole, a, o) at (told i (rw (tail-whole, a, o) (before list n i q).number)) in
          λ k. record { number = a k; place = b k; offset = o k; cause = t k }

-- all that is promised of an answer
pub told : (list : List ℕ) (r : ListWhy) → r ≡ list_why list
    → (22 ≤ r.number → 1 ≤ r.cause) × (r.number ≢ 0 → FrontGood list r.place r.offset)
told list r e = (rw e (caused list), rw e (front list))
