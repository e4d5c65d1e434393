-- What the marking loop keeps, the marks of the records done; and what the first clash is.
use Prim.Native.Nat.{ℕ, ◌+◌, ◌≤◌}
use mathlib.Core.Path.{◌≡◌, refl, sym, ap, ◌∙◌}
use mathlib.Core.List.{List, [], ◌∷◌, ◌++◌, append_assoc, append-nil, map}
use mathlib.Core.Bool.{Bool, true, false}
use native.Mathlib.Omega.{arith}
use lib.ListN.{length, get_or, set}
use Rattle.packet.specs.Step.{Step}
use Rattle.cue.specs.Records.{records, records_of, brief, cut_up}
use Rattle.cue.specs.declared.records.Record.{Record}
use Rattle.cue.proofs.CutLaws.{cut-good, cut-few}
use Rattle.independent.specs.Independent.{clashes, independent, clash, first_clash}
use Rattle.independent.specs.Inside.{Accepted, place_by, marked_by, clashes_with, mark_in, with_mark, byte_of, slot_of, mark_at, Marked}
use Rattle.independent.proofs.MarkLaws.{after, marked_more, clash-told}
use Rattle.independent.proofs.WalkLaws.{Here, here}

-- The records left are those behind the done ones, of which the marks are.
pub record Marking (list : List ℕ) (left : List Record) (marks : List ℕ) : Type 0 where
  pub done : List Step
  pub todo : List Step
  pub list-records : records_of list ≡ records (done ++ todo)
  pub remains : left ≡ map brief todo
  pub marked : Marked done marks

pub marking_first : (list marks : List ℕ) → Accepted list → Marked [] marks → Marking list (cut_up list) marks
marking_first list marks a m =
    record { done = []; todo = a.xs; list-records = a.list-records; remains = cut-good list a.xs a.list-records; marked = m }

pub marking_last : (list marks : List ℕ) (left : List Record) → Marking list left marks → left ≡ []
    → (xs : List Step) → records_of list ≡ records xs → Marked xs marks
marking_last list marks left m l xs e = go m.todo m.list-records (sym l ∙ m.remains)
  where
    go : (todo : List Step) → records_of list ≡ records (m.done ++ todo) → [] ≡ map brief todo → Marked xs marks
    go [] f h =
        let same : m.done ++ [] ≡ xs = cc in
        rw (sym (append-nil m.done) ∙ same) at m.marked
    go (x ∷ todo) f h = let z : ◌≡◌ {A = List Record} [] (brief x ∷ map brief todo) = h in absurd cc

-- a turn of the loop
pub marking_here : (list marks : List ℕ) (left : List Record) (k : Marking list left marks) (r : Record) (more : List Record)
    → left ≡ r ∷ more → Here list k.done r more
marking_here list marks left k r more e = here list k.done k.todo r more k.list-records (sym e ∙ k.remains)

marked_here : {list marks : List ℕ} {done : List Step} {r : Record} {more : List Record} (h : Here list done r more) → Marked done marks
    → (at : ℕ) → at ≡ place_by r → (byte : ℕ)
    → byte ≡ (let old = get_or marks (byte_of at) 0 in with_mark old (slot_of at) (marked_by (mark_in old (slot_of at)) r.write))
    → Marked (done ++ (h.x ∷ [])) (set marks (byte_of at) byte)
unfolding after mark_at
marked_here {marks = marks} {done = done} h m at p byte f =
    rw (f, h.write, p ∙ h.place) (marked_more done h.x marks m h.cell)

pub marking_again : (list marks : List ℕ) (left : List Record) (k : Marking list left marks) (r : Record) (more : List Record)
    → left ≡ r ∷ more → (at : ℕ) → at ≡ place_by r → (byte : ℕ)
    → byte ≡ (let old = get_or marks (byte_of at) 0 in with_mark old (slot_of at) (marked_by (mark_in old (slot_of at)) r.write))
    → Marking list more (set marks (byte_of at) byte)
marking_again list marks left k r more e at p byte f =
    let h = marking_here list marks left k r more e in
    record {
      done = k.done ++ (h.x ∷ []);
      todo = h.later;
      list-records = h.list-records ∙ ap records (sym (append_assoc k.done (h.x ∷ []) h.later));
      remains = h.remains;
      marked = marked_here h k.marked at p byte f;
    }

-- None of the done records clashes with those that left the marks.
pub record Testing (list : List ℕ) (left : List Record) (index : ℕ) (marks : List ℕ) : Type 0 where
  pub done : List Step
  pub todo : List Step
  pub list-records : records_of list ≡ records (done ++ todo)
  pub remains : left ≡ map brief todo
  pub few : index + length left ≤ length list
  pub passed : (xs : List Step) → Marked xs marks → (more : List Step) → first_clash xs 0 (done ++ more) ≡ first_clash xs index more

pub testing_first : (list marks : List ℕ) → Accepted list → (left : List Record) → left ≡ cut_up list → (index : ℕ) → index ≡ 0
    → Testing list left index marks
testing_first list marks a left e index z =
    record {
      done = [];
      todo = a.xs;
      list-records = a.list-records;
      remains = e ∙ cut-good list a.xs a.list-records;
      few = omega (arith, ap length e, cut-few list);
      passed = λ xs m more. rw z refl;
    }

pub testing_last : (list marks : List ℕ) (left : List Record) (index : ℕ) → Testing list left index marks → left ≡ []
    → (xs ys : List Step) → Marked xs marks → records_of list ≡ records ys → independent ≡ first_clash xs 0 ys
unfolding first_clash
testing_last list marks left index t l xs ys m e = go t.todo t.list-records (sym l ∙ t.remains)
  where
    go : (todo : List Step) → records_of list ≡ records (t.done ++ todo) → [] ≡ map brief todo → independent ≡ first_clash xs 0 ys
    go [] f h =
        let same : t.done ++ [] ≡ ys = cc in
        sym (ap (first_clash xs 0) (sym same) ∙ t.passed xs m [])
    go (x ∷ todo) f h = let z : ◌≡◌ {A = List Record} [] (brief x ∷ map brief todo) = h in absurd cc

-- a turn of that loop
told_here : {list marks : List ℕ} {done : List Step} {r : Record} {more : List Record} (h : Here list done r more) (found : Bool)
    → found ≡ clashes_with (mark_at marks (place_by r)) r.write → (xs : List Step) → Marked xs marks → clashes xs h.x ≡ found
told_here {marks = marks} h found f xs m = sym (f ∙ rw (h.place, h.write) (clash-told xs h.x marks m h.cell))

module _ (list marks : List ℕ) (left : List Record) (index : ℕ) (t : Testing list left index marks) (r : Record) (more : List Record) where
  found_here : (h : Here list t.done r more) → ((xs : List Step) → Marked xs marks → clashes xs h.x ≡ true)
      → (xs ys : List Step) → Marked xs marks → records_of list ≡ records ys → clash index ≡ first_clash xs 0 ys
  unfolding first_clash
  found_here h told xs ys m g =
      let a = h.list-records in
      let same : t.done ++ h.x ∷ h.later ≡ ys = cc in
      sym (ap (first_clash xs 0) (sym same) ∙ t.passed xs m (h.x ∷ h.later) ∙ rw (told xs m) refl)

  again_here : (h : Here list t.done r more) → ((xs : List Step) → Marked xs marks → clashes xs h.x ≡ false)
      → index + 1 + length more ≤ length list → Testing list more (index + 1) marks
  unfolding first_clash
  again_here h told few =
      record {
        done = t.done ++ (h.x ∷ []);
        todo = h.later;
        list-records = h.list-records ∙ ap records (sym (append_assoc t.done (h.x ∷ []) h.later));
        remains = h.remains;
        few = few;
        passed =
            λ xs m more.
            ap (first_clash xs 0) (append_assoc t.done (h.x ∷ []) more)
            ∙ t.passed xs m (h.x ∷ more)
            ∙ rw (told xs m) refl;
      }

  module _ (e : left ≡ r ∷ more) (found : Bool) (f : found ≡ clashes_with (mark_at marks (place_by r)) r.write) where
    testing_here : Here list t.done r more
    testing_here = here list t.done t.todo r more t.list-records (sym e ∙ t.remains)

    pub clash-found : found ≡ true → (xs ys : List Step) → Marked xs marks → records_of list ≡ records ys
        → clash index ≡ first_clash xs 0 ys
    clash-found c = found_here testing_here (λ xs m. told_here testing_here found f xs m ∙ c)

    pub testing_again : found ≡ false → Testing list more (index + 1) marks
    testing_again c =
        again_here testing_here (λ xs m. told_here testing_here found f xs m ∙ c) (omega (arith, t.few, ap length e))
