-- Laws of the output: a good list comes out as it is, and what comes out is a list whose records are those kept.
use Prim.Native.Nat.{ℕ, zero, suc, ◌+◌, ◌≤◌, ◌<◌}
use mathlib.Core.Path.{◌≡◌, refl, sym, ap, ◌∙◌}
use mathlib.Core.Logic.{◌≢◌}
use mathlib.Core.List.{List, [], ◌∷◌, ◌++◌}
use mathlib.Core.Bool.{Bool, true, false, cond}
use native.Mathlib.Omega.{arith}
use native.Mathlib.Nat.{zero-add}
use lib.Dec.{eqb, ltb}
use lib.ListN.{length, take, drop, length-append, length-drop, take-append-drop}
use lib.Seq.{length-take-le, drop-append_seam}
use borrow.Author.Tests.{eqb-true, eqb-false, lt-ltb, le-ltb}
use Rattle.lbp16.specs.Answer.{Answer}
use Rattle.packet.specs.Step.{Step}
use Rattle.packet.specs.Rules.{first}
use Rattle.cue.specs.Records.{record_refusals, record_bytes, record_step, most_records}
use Rattle.cue.specs.Records.{Listed, refused, records, records_of, records_from, with_record}
use Rattle.cue.specs.Compile.{compiled}
use Rattle.cue.specs.Compile
use Rattle.cue.proofs.CompileLaws.{whole, accepted_exactly, compile_cases}
use Rattle.cue.proofs.OwnBytesLaws.{same_kind_lem, same_step_lem, judged-alike, any_index}
use Rattle.cue.proofs.WalkLaws.{records-next, Remains, remains-all, remains-next}
use Rattle.salvage.specs.Salvage.{stands, size_at, Stretch, kept, skipped, skip, scan, scan_from}
use Rattle.salvage.specs.Salvage.{bytes_of_kept, log_from, output, logged}
use Rattle.salvage.proofs.ScanLaws.{by-scan, scan-kept, stands-passes, stands-whole, size-some, bytes_of, joined, covered}

-- A record's own bytes: it stands there, and nothing follows it.
pub record Alone (r : List ℕ) : Type 0 where
  pub stood : stands r ≡ true
  pub size : size_at r ≡ length r

-- every kept stretch is such a record
Whole : List Stretch → Type 0
Whole [] = Unit
Whole (kept r ∷ ss) = Alone r × Whole ss
Whole (skipped bs ∷ ss) = Whole ss

same_size : (r x : List ℕ) → 2 ≤ length r → size_at (r ++ x) ≡ size_at r
unfolding size_at
same_size r x h = ap record_bytes (same_kind_lem r x h)

same-stands : (r x : List ℕ) → size_at r ≤ length r → stands (r ++ x) ≡ stands r
unfolding stands size_at
same-stands r x h = rw (judged-alike 0 0 r x h (λ e. omega arith) (λ e. omega arith)) refl

alone : (rest : List ℕ) → stands rest ≡ true → Alone (take (size_at rest) rest)
alone rest e =
    let n = size-some rest in
    let l = length-take-le (size_at rest) rest (stands-whole rest e) in
    let both = take-append-drop (size_at rest) rest in
    let s : size_at (take (size_at rest) rest) ≡ size_at rest =
    sym (same_size (take (size_at rest) rest) (drop (size_at rest) rest) (omega arith)) ∙ ap size_at both in
    record {
      stood = sym (same-stands (take (size_at rest) rest) (drop (size_at rest) rest) (omega arith)) ∙ ap stands both ∙ e;
      size = s ∙ sym l;
    }

whole-skip : (b : ℕ) (ss : List Stretch) → Whole ss → Whole (skip b ss)
unfolding skip Whole
whole-skip b [] w = tt
whole-skip b (kept r ∷ ss) w = w
whole-skip b (skipped bs ∷ ss) w = w

scan-whole : (list : List ℕ) → Whole (scan list)
unfolding Whole
scan-whole = by-scan (λ list ss. Whole ss) tt (λ rest ss e w. (alone rest e, w)) (λ b bs ss e w. whole-skip b ss w)

-- nothing is skipped
AllKept : List Stretch → Type 0
AllKept [] = Unit
AllKept (kept r ∷ ss) = AllKept ss
AllKept (skipped bs ∷ ss) = ⊥

all-joined : (ss : List Stretch) → AllKept ss → bytes_of_kept ss ≡ joined ss
unfolding AllKept bytes_of_kept joined bytes_of
all-joined [] a = refl
all-joined (kept r ∷ ss) a = rw (all-joined ss a) refl
all-joined (skipped bs ∷ ss) a = absurd a

all-silent : (at : ℕ) (ss : List Stretch) → AllKept ss → log_from at ss ≡ []
unfolding AllKept log_from
all-silent at [] a = refl
all-silent at (kept r ∷ ss) a = all-silent (at + length r) ss a
all-silent at (skipped bs ∷ ss) a = absurd a

-- a list that comes out as it is, with an empty log
pub record Unchanged (list : List ℕ) : Type 0 where
  pub same : output list ≡ list
  pub silent : logged list ≡ []

unchanged : (list : List ℕ) → AllKept (scan list) → Unchanged list
unfolding output logged
unchanged list a = record { same = all-joined (scan list) a ∙ covered list; silent = all-silent 0 (scan list) a }

passes-stands : (index : ℕ) (rest : List ℕ) → first (record_refusals index rest) ≡ 0 → stands rest ≡ true
unfolding stands
passes-stands index rest e = rw (any_index index 0 rest (λ z. omega arith) e) refl

one_more_lem : (rest : List ℕ) → stands rest ≡ true → AllKept (scan (drop (size_at rest) rest)) → AllKept (scan rest)
unfolding AllKept
one_more_lem rest e a = rw (scan-kept rest e) a

good-kept : (most index : ℕ) (rest : List ℕ) (xs : List Step) → length rest ≤ most → Remains index rest xs → AllKept (scan rest)
unfolding AllKept scan scan_from size_at
good-kept zero index [] xs h r = tt
good-kept zero index (b ∷ bs) xs h r = absurd (omega arith)
good-kept (suc most) index [] xs h r = tt
good-kept (suc most) index (b ∷ bs) xs h r =
    let n = remains-next r (λ e. omega arith) in
    let s = size-some (b ∷ bs) in
    let shorter : length (drop (size_at (b ∷ bs)) (b ∷ bs)) ≤ most = rw length-drop (omega arith) in
    one_more_lem (b ∷ bs) (passes-stands index (b ∷ bs) n.fine) (good-kept most (index + 1) _ n.later shorter n.remains)

-- A good list comes out unchanged, with an empty log.
pub good-unchanged : (list : List ℕ) (xs : List Step) → records_of list ≡ records xs → Unchanged list
good-unchanged list xs e = unchanged list (good-kept (length list) 0 list xs (omega arith) (remains-all list xs e))

-- The records that are kept, as they stand in the output.
pub kept_steps : List Stretch → List Step
kept_steps [] = []
kept_steps (kept r ∷ ss) = record_step r ∷ kept_steps ss
kept_steps (skipped bs ∷ ss) = kept_steps ss

-- a record in front of anything stands there, with as many bytes
alone-stands : (r x : List ℕ) → Alone r → stands (r ++ x) ≡ true
alone-stands r x a = same-stands r x (omega (arith, a.size)) ∙ a.stood

alone-size : (r x : List ℕ) → Alone r → size_at (r ++ x) ≡ length r
alone-size r x a = same_size r x (omega (arith, a.size, size-some r)) ∙ a.size

-- the scan of the output finds the kept records, and nothing to skip
again : (ss : List Stretch) → Whole ss → AllKept (scan (bytes_of_kept ss))
unfolding Whole bytes_of_kept scan scan_from AllKept
again [] w = tt
again (kept r ∷ ss) w =
    one_more_lem (r ++ bytes_of_kept ss) (alone-stands r _ w.0) (rw (alone-size r (bytes_of_kept ss) w.0, drop-append_seam) (again ss w.1))
again (skipped bs ∷ ss) w = again ss w

-- Salvaging the result again changes nothing and logs nothing.
pub result_unchanged : (list : List ℕ) → Unchanged (output list)
unfolding output
result_unchanged list = unchanged (bytes_of_kept (scan list)) (again (scan list) (scan-whole list))

-- a list's records, or 21 where they are too many
pub playable : List Step → Listed
playable xs = cond (ltb most_records (length xs)) (refused 21 most_records) (records xs)

-- the same where `index` records stand before these
playable_from : ℕ → List Step → Listed
playable_from index xs = cond (ltb most_records (index + length xs)) (refused 21 most_records) (records xs)

too_many : (rest : List ℕ) → first (record_refusals most_records rest) ≡ 21
unfolding record_refusals first
too_many rest = refl

-- one record too many
record_past : (fuel : ℕ) (rest : List ℕ) → 0 < length rest → records_from (suc fuel) most_records rest ≡ refused 21 most_records
unfolding records_from
record_past fuel [] h = absurd (omega arith)
record_past fuel (b ∷ bs) h = rw (too_many (b ∷ bs)) refl

with_playable : (index : ℕ) (x : Step) (xs : List Step) → with_record x (playable_from (index + 1) xs) ≡ playable_from index (x ∷ xs)
unfolding with_record playable_from
with_playable index x xs =
    let e : index + suc (length xs) ≡ index + 1 + length xs = omega arith in
    rw e (go (ltb most_records (index + 1 + length xs)))
  where
    go : (b : Bool) → with_record x (cond b (refused 21 most_records) (records xs)) ≡ cond b (refused 21 most_records) (records (x ∷ xs))
    go true = refl
    go false = refl

-- one record in front of others that are good
next-kept : (fuel index : ℕ) (r x : List ℕ) (xs : List Step) → Alone r → index ≢ most_records
    → records_from fuel (index + 1) x ≡ playable_from (index + 1) xs
    → records_from (suc fuel) index (r ++ x) ≡ playable_from index (record_step r ∷ xs)
unfolding size_at
next-kept fuel index r x xs a n e =
    let some : 0 < length (r ++ x) = rw length-append (omega (arith, a.size, size-some r)) in
    let pass = any_index 0 index (r ++ x) n (stands-passes (r ++ x) (alone-stands r x a)) in
    records-next fuel index (r ++ x) some pass
    ∙ rw (same_step_lem r x (omega (arith, a.size)), alone-size r x a, drop-append_seam, e) (with_playable index (record_step r) xs)

past-kept : (fuel : ℕ) (r x : List ℕ) (xs : List Step) → Alone r
    → records_from (suc fuel) most_records (r ++ x) ≡ playable_from most_records (record_step r ∷ xs)
unfolding playable_from
past-kept fuel r x xs a =
    let some : 0 < length (r ++ x) = rw length-append (omega (arith, a.size, size-some r)) in
    let more : most_records < most_records + suc (length xs) = omega arith in
    record_past fuel (r ++ x) some ∙ rw (lt-ltb _ _ more) refl

none_kept : (fuel index : ℕ) → index ≤ most_records → records_from fuel index [] ≡ playable_from index []
unfolding playable_from records_from
none_kept zero index n = rw (le-ltb most_records (index + 0) (omega arith)) refl
none_kept (suc fuel) index n = rw (le-ltb most_records (index + 0) (omega arith)) refl

from-kept : (fuel index : ℕ) (ss : List Stretch) → Whole ss → length (bytes_of_kept ss) ≤ fuel → index ≤ most_records
    → records_from fuel index (bytes_of_kept ss) ≡ playable_from index (kept_steps ss)
unfolding Whole bytes_of_kept kept_steps
from-kept fuel index [] w h n = none_kept fuel index n
from-kept fuel index (skipped bs ∷ ss) w h n = from-kept fuel index ss w h n
from-kept fuel index (kept r ∷ ss) w h n =
    go fuel (simp length-append at h) (eqb index most_records) refl (λ k. from-kept k (index + 1) ss w.1)
  where
    go : (fuel : ℕ) → length r + length (bytes_of_kept ss) ≤ fuel → (b : Bool) → eqb index most_records ≡ b
        → ((k : ℕ) → length (bytes_of_kept ss) ≤ k → index + 1 ≤ most_records
        → records_from k (index + 1) (bytes_of_kept ss) ≡ playable_from (index + 1) (kept_steps ss))
        → records_from fuel index (r ++ bytes_of_kept ss) ≡ playable_from index (record_step r ∷ kept_steps ss)
    go zero l b e more = absurd (omega (arith, w.0.size, size-some r))
    go (suc k) l true e more = rw (eqb-true index most_records e) (past-kept k r _ _ w.0)
    go (suc k) l false e more =
        let m = eqb-false index most_records e in
        next-kept k index r _ _ w.0 m (more k (omega (arith, w.0.size, size-some r)) (omega arith))

-- The result's records are those kept, unless 21 applies.
pub result_records : (list : List ℕ) → records_of (output list) ≡ playable (kept_steps (scan list))
unfolding output records_of playable playable_from
result_records list =
    from-kept _ 0 (scan list) (scan-whole list) (omega arith) (omega arith)
    ∙ rw zero-add refl

-- So the result compiles unless 21 or 26 applies: with no more records than a list may have, and room enough, it does,
pub result_compiles : (list room : List ℕ) → length (kept_steps (scan list)) ≤ most_records
    → length (Compile.output (kept_steps (scan list))) ≤ length room
    → compiled (output list) room ≡ whole (kept_steps (scan list)) room
unfolding playable
result_compiles list room few fits =
    accepted_exactly (output list) room _ (result_records list ∙ rw (le-ltb _ _ few) refl) fits

-- and no other number than these two is given.
only_21 : (list : List ℕ) (n k : ℕ) → records_of (output list) ≡ refused n k → n ≡ 21
unfolding playable
only_21 list n k e = go (ltb most_records (length (kept_steps (scan list)))) (sym (result_records list) ∙ e)
  where
    go : (b : Bool) → cond b (refused 21 most_records) (records (kept_steps (scan list))) ≡ refused n k → n ≡ 21
    go true e = cc
    go false e = let z : ◌≡◌ {A = ℕ} 0 1 = cc in absurd (omega arith)

pub result_refusals : (list room : List ℕ) (n k : ℕ) → (compiled (output list) room).answer ≡ Answer.refused n k → n ≢ 21 → n ≡ 26
result_refusals list room n k =
    compile_cases (output list) room (λ c. c.answer ≡ Answer.refused n k → n ≢ 21 → n ≡ 26)
    (λ m i e q h. let o = only_21 list m i e in let z : n ≡ 21 = cc in absurd (h z))
    (λ xs e l q h. cc)
    (λ xs e l q h. let z : ◌≡◌ {A = ℕ} 0 1 = cc in absurd (omega arith))
