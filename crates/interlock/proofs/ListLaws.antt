-- A cue list with a guard: its records gone through, and what the answer says of them.
use Prim.Native.Nat.{ℕ, ◌+◌, ◌-◌, ◌≤◌}
use mathlib.Core.Path.{◌≡◌, refl, sym, ap, ◌∙◌}
use mathlib.Core.List.{List, [], ◌∷◌}
use mathlib.Core.Bool.{Bool, true, false, ◌||◌, cond}
use native.Mathlib.Omega.{arith}
use native.Mathlib.Decide.{dec_le}
use lib.Dec.{leb}
use lib.ListN.{length, take, drop}
use Rattle.lbp16.specs.Answer.{Answer}
use Rattle.lbp16.specs.Space.{space_of, row, area_row}
use Rattle.packet.specs.Step.{Kind, read, write, infoRead, Step, is_info, is_write, row_by, at}
use Rattle.packet.specs.Rules.{any_step}
use Rattle.packet.specs.Command.{pick_kind}
use Rattle.packet.proofs.SliceLaws.{tail-whole}
use Rattle.cue.specs.Records.{Listed, refused, records, records_of, record_step, record_kind, record_bytes, record_at, brief, cut_up}
use Rattle.cue.specs.Compile.{needed}
use Rattle.cue.specs.declared.records.Record.{Record}
use Rattle.cue.proofs.RecordLaws.{refused_record}
use Rattle.cue.proofs.ReadingLaws.{passing}
use Rattle.cue.proofs.PackingLaws.{record_bytes_le, space-again}
use Rattle.cue.proofs.CutLaws.{cut-next, cut-end}
use Rattle.cue.proofs.WalkLaws.{Remains, remains-all, remains-none, remains-next}
use Rattle.interlock.specs.Guard.{sound_from, soundness, faulty, most_ranges, touches, writes_protected, protected}
use Rattle.interlock.specs.Guarded.{records_held, list_held, list_by, guarded_list}

-- One record, as the code reads it.
pub record_read : (guard : List ℕ) (r : Record) (x : Step) → r ≡ brief x → r.write ≡ false → false ≡ writes_protected guard x
unfolding writes_protected brief
record_read guard r x e w = rw (sym (ap (λ (s : Record). s.write) e) ∙ w) refl

pub record_written : (guard : List ℕ) (r : Record) (x : Step) → r ≡ brief x → r.write ≡ true → (b : Bool)
    → b ≡ touches guard ((row (space_of r.space)).place + r.address) (row (space_of r.space)).element → b ≡ writes_protected guard x
unfolding writes_protected brief at row_by area_row is_info is_write
record_written guard r x e w b h =
    let space : space_of r.space ≡ x.space = ap (λ (s : Record). space_of s.space) e ∙ space-again x.space in
    let address : r.address ≡ x.address = ap (λ (s : Record). s.address) e in
    let writes : is_write x.kind ≡ true = sym (ap (λ (s : Record). s.write) e) ∙ w in
    h ∙ rw (space, address, writes, plain x.kind writes) refl
  where
    plain : (k : Kind) → is_write k ≡ true → is_info k ≡ false
    plain read e = let z : ◌≡◌ {A = ℕ} 0 1 = cc in absurd (omega arith)
    plain write e = refl
    plain infoRead e = let z : ◌≡◌ {A = ℕ} 0 1 = cc in absurd (omega arith)

-- Before the record with this index of an accepted list: the records left, and what stands for them in the answer.
pub record Holding (guard list rest : List ℕ) (index : ℕ) : Type 0 where
  xs : List Step
  list-records : records_of list ≡ records xs
  todo : List Step
  remains : Remains index rest todo
  held : records_held guard 0 xs ≡ records_held guard index todo
  pub few : index ≤ 100000

pub holding_first : (guard list : List ℕ) (xs : List Step) → records_of list ≡ records xs → Holding guard list list 0
holding_first guard list xs e =
    record { xs = xs; list-records = e; todo = xs; remains = remains-all list xs e; held = refl; few = omega arith }

-- the answer, whatever name the records have
by_name : (guard : List ℕ) (a : Answer) (v : Listed) (xs ys : List Step) → v ≡ records xs → a ≡ records_held guard 0 xs → v ≡ records ys
    → a ≡ records_held guard 0 ys
by_name guard a v xs ys e h f = let q : xs ≡ ys = cc in h ∙ ap (records_held guard 0) q

module _ {guard list rest : List ℕ} {index : ℕ} (s : Holding guard list rest index) where
  pub holding_last : length rest ≡ 0 → (ys : List Step) → records_of list ≡ records ys
      → Answer.accepted (index ∷ []) ≡ records_held guard 0 ys
  unfolding records_held
  holding_last e ys =
      by_name guard _ (records_of list) s.xs ys s.list-records
      (sym (s.held ∙ ap (records_held guard index) (remains-none s.remains e)))

  module _ (more : length rest ≡ 0 → ⊥) (r : Record) (a : r ≡ record_at rest) (b : Bool)
      (told : (x : Step) → r ≡ brief x → b ≡ writes_protected guard x) where
    here : b ≡ writes_protected guard (record_step rest)
    here = told (record_step rest) (a ∙ (passing index rest (remains-next s.remains more).fine).read)

    turn : records_held guard 0 s.xs
        ≡ cond b (Answer.refused 71 index) (records_held guard (index + 1) (remains-next s.remains more).later)
    unfolding records_held
    turn = s.held ∙ ap (records_held guard index) (remains-next s.remains more).same ∙ rw (← here) refl

    pub holding_found : b ≡ true → (ys : List Step) → records_of list ≡ records ys → Answer.refused 71 index ≡ records_held guard 0 ys
    holding_found t ys = by_name guard _ (records_of list) s.xs ys s.list-records (sym (turn ∙ rw t refl))

    module _ (n : ℕ) (e : n ≡ record_bytes (pick_kind r.write)) where
      bytes_same : n ≡ record_bytes (record_kind rest)
      unfolding record_at record_kind
      bytes_same = e ∙ ap (λ (s : Record). record_bytes (pick_kind s.write)) a

      pub holding_whole : n ≤ length rest
      unfolding record_step
      holding_whole = rw bytes_same (passing index rest (remains-next s.remains more).fine).bytes

      pub holding_some : 1 ≤ n
      holding_some = rw bytes_same (omega (arith, record_bytes_le (record_kind rest)))

      pub holding_next : b ≡ false → Holding guard list (take (length rest - n) (drop n rest)) (index + 1)
      holding_next t =
          let next = remains-next s.remains more in
          let other = (passing index rest next.fine).few in
          let few = s.few in
          record {
            xs = s.xs;
            list-records = s.list-records;
            todo = next.later;
            remains = rw (tail-whole, bytes_same) next.remains;
            held = turn ∙ rw t refl;
            few = omega arith;
          }

-- The same, where the records that are left are known and not their bytes.
pub record Left (guard list : List ℕ) (recs : List Record) (index : ℕ) : Type 0 where
  rest : List ℕ
  same : recs ≡ cut_up rest
  holding : Holding guard list rest index

pub held-first : (guard list : List ℕ) (xs : List Step) → records_of list ≡ records xs → Left guard list (cut_up list) 0
held-first guard list xs e = record { rest = list; same = refl; holding = holding_first guard list xs e }

module _ {guard list : List ℕ} {recs : List Record} {index : ℕ} (h : Left guard list recs index) where
  pub held-few : index ≤ 100000
  held-few = h.holding.few

  pub held-last : recs ≡ [] → (ys : List Step) → records_of list ≡ records ys → Answer.accepted (index ∷ []) ≡ records_held guard 0 ys
  held-last e = holding_last h.holding (go (dec_le (length h.rest) 0))
    where
      go : Dec (length h.rest ≤ 0) → length h.rest ≡ 0
      go (yes l) = omega arith
      go (no g) =
          let c = sym e ∙ h.same ∙ cut-next h.rest (omega arith) in
          let z : ◌≡◌ {A = ℕ} 0 1 = cc in
          absurd (omega arith)

  module _ (r : Record) (more : List Record) (e : recs ≡ r ∷ more) (b : Bool) (told : (x : Step) → r ≡ brief x → b ≡ writes_protected guard x) where
    some : length h.rest ≡ 0 → ⊥
    some z =
        let c = sym e ∙ h.same ∙ cut-end h.rest z in
        let z : ◌≡◌ {A = ℕ} 0 1 = cc in
        omega arith

    cut : r ∷ more ≡ record_at h.rest ∷ cut_up (drop (record_bytes (record_kind h.rest)) h.rest)
    cut = let s = some in sym e ∙ h.same ∙ cut-next h.rest (omega arith)

    read_is : r ≡ record_at h.rest
    read_is = let c = cut in cc

    pub held-found : b ≡ true → (ys : List Step) → records_of list ≡ records ys → Answer.refused 71 index ≡ records_held guard 0 ys
    held-found t = holding_found h.holding some r read_is b told t

    pub held-next : b ≡ false → Left guard list more (index + 1)
    held-next t =
        let n = record_bytes (pick_kind r.write) in
        let c = cut in
        let q : more ≡ cut_up (drop (record_bytes (record_kind h.rest)) h.rest) = cc in
        let k : n ≡ record_bytes (record_kind h.rest) = bytes_same h.holding some r read_is b told n refl in
        record {
          rest = take (length h.rest - n) (drop n h.rest);
          same = q ∙ rw (tail-whole, k) refl;
          holding = holding_next h.holding some r read_is b told n refl t;
        }

-- The answer, from the guard's soundness and the list's own compilation.
module _ (guard list : List ℕ) where
  pub list-unsound : (n i : ℕ) → Answer.refused n i ≡ soundness guard → Answer.refused n i ≡ guarded_list guard list
  unfolding guarded_list list_by
  list-unsound n i e = rw (← e) refl

  module _ (values : List ℕ) (sound : Answer.accepted values ≡ soundness guard) where
    pub list-refused : (n i : ℕ) → Answer.refused n i ≡ needed (records_of list) → Answer.refused n i ≡ guarded_list guard list
    unfolding guarded_list list_by list_held needed
    list-refused n i e = rw (← sound) (go (records_of list) e)
      where
        go : (v : Listed) → Answer.refused n i ≡ needed v → Answer.refused n i ≡ list_held guard v
        go (refused m j) e = e
        go (records xs) e = let z : ◌≡◌ {A = ℕ} 0 1 = cc in absurd (omega arith)

    pub list_held_lem : (a : Answer) → ((xs : List Step) → records_of list ≡ records xs → a ≡ records_held guard 0 xs)
        → (xs : List Step) → records_of list ≡ records xs → a ≡ guarded_list guard list
    unfolding guarded_list list_by list_held
    list_held_lem a h xs e = h xs e ∙ rw (← sound, e) refl

-- an accepted list has records
pub list-accepted : (list values : List ℕ) → Answer.accepted values ≡ needed (records_of list) → (xs : List Step) × (records_of list ≡ records xs)
unfolding needed
list-accepted list values e = go (records_of list) refl e
  where
    go : (v : Listed) → records_of list ≡ v → Answer.accepted values ≡ needed v → (xs : List Step) × (records_of list ≡ records xs)
    go (refused m j) q e = let z : ◌≡◌ {A = ℕ} 0 1 = cc in absurd (omega arith)
    go (records xs) q e = (xs, q)

-- What an answer says of the records.
held_none : (guard : List ℕ) (index : ℕ) (xs : List Step) (n : ℕ) → records_held guard index xs ≡ Answer.accepted (n ∷ [])
    → (protected guard xs ≡ false) × (n ≡ index + length xs)
unfolding records_held protected any_step
held_none guard index [] n e = let q : index ≡ n = cc in (refl, omega arith)
held_none guard index (x ∷ xs) n e = go (writes_protected guard x) (held_none guard (index + 1) xs n) e
  where
    go : (b : Bool)
        → (records_held guard (index + 1) xs ≡ Answer.accepted (n ∷ [])
        → (any_step (writes_protected guard) xs ≡ false) × (n ≡ index + 1 + length xs))
        → cond b (Answer.refused 71 index) (records_held guard (index + 1) xs) ≡ Answer.accepted (n ∷ [])
        → ((b || any_step (writes_protected guard) xs) ≡ false) × (n ≡ index + length (x ∷ xs))
    go true more e = let z : ◌≡◌ {A = ℕ} 0 1 = cc in absurd (omega arith)
    go false more e = let (none, count) = more e in (none, omega arith)

held-some : (guard : List ℕ) (index : ℕ) (xs : List Step) (n i : ℕ) → records_held guard index xs ≡ Answer.refused n i
    → protected guard xs ≡ true
unfolding records_held protected any_step
held-some guard index [] n i e = let z : ◌≡◌ {A = ℕ} 0 1 = cc in absurd (omega arith)
held-some guard index (x ∷ xs) n i e = go (writes_protected guard x) (held-some guard (index + 1) xs n i) e
  where
    go : (b : Bool) → (records_held guard (index + 1) xs ≡ Answer.refused n i → any_step (writes_protected guard) xs ≡ true)
        → cond b (Answer.refused 71 index) (records_held guard (index + 1) xs) ≡ Answer.refused n i
        → (b || any_step (writes_protected guard) xs) ≡ true
    go true more e = refl
    go false more e = more e

-- A list that the guard lets pass: the guard is sound, and no record writes a protected byte.
pub record LetPass (guard list : List ℕ) (n : ℕ) : Type 0 where
  pub values : List ℕ
  pub sound : soundness guard ≡ Answer.accepted values
  pub xs : List Step
  pub list-records : records_of list ≡ records xs
  pub free : protected guard xs ≡ false
  pub count : n ≡ length xs

pub let_pass : (guard list : List ℕ) (n : ℕ) → guarded_list guard list ≡ Answer.accepted (n ∷ []) → LetPass guard list n
unfolding guarded_list list_by list_held
let_pass guard list n e = go (soundness guard) refl (records_of list) refl e
  where
    go : (a : Answer) → soundness guard ≡ a → (v : Listed) → records_of list ≡ v → list_by a (list_held guard v) ≡ Answer.accepted (n ∷ [])
        → LetPass guard list n
    go (Answer.refused m i) s v r e = let z : ◌≡◌ {A = ℕ} 0 1 = cc in absurd (omega arith)
    go (Answer.accepted values) s (refused m i) r e = let z : ◌≡◌ {A = ℕ} 0 1 = cc in absurd (omega arith)
    go (Answer.accepted values) s (records xs) r e =
        let h = held_none guard 0 xs n e in
        record { values = values; sound = s; xs = xs; list-records = r; free = h.0; count = let q = h.1 in omega arith }

-- A list that is refused with 71: the guard is sound, the list good, and some record writes a protected byte.
pub record Held (guard list : List ℕ) : Type 0 where
  pub values : List ℕ
  pub sound : soundness guard ≡ Answer.accepted values
  pub xs : List Step
  pub list-records : records_of list ≡ records xs
  pub some : protected guard xs ≡ true

-- a guard is refused with 70 alone
only_70 : (index : ℕ) (guard : List ℕ) (n i : ℕ) → sound_from index guard ≡ Answer.refused n i → n ≡ 70
unfolding sound_from
only_70 index [] n i e = let z : ◌≡◌ {A = ℕ} 0 1 = cc in absurd (omega arith)
only_70 index (first ∷ []) n i e = cc
only_70 index (first ∷ bytes ∷ rest) n i e = go (leb most_ranges index || faulty first bytes) (only_70 (index + 1) rest n i) e
  where
    go : (b : Bool) → (sound_from (index + 1) rest ≡ Answer.refused n i → n ≡ 70)
        → cond b (Answer.refused 70 index) (sound_from (index + 1) rest) ≡ Answer.refused n i → n ≡ 70
    go true more e = cc
    go false more e = more e

pub held_back_lem : (guard list : List ℕ) (i : ℕ) → guarded_list guard list ≡ Answer.refused 71 i → Held guard list
unfolding guarded_list list_by list_held soundness
held_back_lem guard list i e = go (soundness guard) refl (records_of list) refl e
  where
    go : (a : Answer) → soundness guard ≡ a → (v : Listed) → records_of list ≡ v → list_by a (list_held guard v) ≡ Answer.refused 71 i
        → Held guard list
    go (Answer.refused m j) s v r e =
        let q : m ≡ 71 = cc in
        let p = only_70 0 guard m j s in
        absurd (omega arith)
    go (Answer.accepted values) s (refused m j) r e =
        let q : m ≡ 71 = cc in
        let t = (refused_record list m j r).in_table in
        absurd (omega arith)
    go (Answer.accepted values) s (records xs) r e =
        record { values = values; sound = s; xs = xs; list-records = r; some = held-some guard 0 xs 71 i e }
