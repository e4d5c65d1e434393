-- Writing a list: what its text needs, a record's line as the code puts it, and the lines one after the other.
use Prim.Native.Nat.{ℕ, zero, suc, ◌+◌, ◌-◌, ◌*◌, ◌≤◌, ◌<◌}
use mathlib.Core.Path.{◌≡◌, refl, sym, ap, ◌∙◌}
use mathlib.Core.List.{List, [], ◌∷◌, ◌++◌, append-nil}
use mathlib.Core.Bool.{Bool, true, false, cond}
use native.Mathlib.Omega.{arith}
use native.Mathlib.Nat.{le_refl, zero-add, add-zero}
use lib.Dec.{eqb, ltb}
use lib.ListN.{length, take, drop, length-append, length-drop}
use lib.Seq.{drop-drop, take_at, take-take}
use borrow.Author.Tests.{lt-ltb, le-ltb}
use Rattle.std.proofs.Common.{Result, Ok, Err}
use Rattle.lbp16.specs.Answer.{Answer}
use Rattle.lbp16.specs.Space.{Space, registers, eeprom, status, information, absent, space_of, is_absent, row}
use Rattle.lbp16.specs.declared.Refusal.{Refusal}
use Rattle.lbp16.proofs.CaseLaws.{space-cases}
use Rattle.packet.specs.Bytes.{number}
use Rattle.packet.specs.Step.{Kind, read, write, infoRead, Step, is_info, is_write, carried}
use Rattle.packet.specs.Rules.{first}
use Rattle.packet.specs.Command.{pick_kind}
use Rattle.packet.proofs.SliceLaws.{tail-whole}
use Rattle.card.proofs.ElementLaws.{Octets}
use Rattle.cue.specs.Packing.{join_all}
use Rattle.cue.specs.Records.{Listed, refused, records, records_of, records_from, record_refusals, record_step, record_kind, record_bytes, record_space}
use Rattle.cue.specs.Records.{bytes_of_value, record_at, brief, with_record, listed_at, mark_at, write_mark, most_records}
use Rattle.cue.specs.declared.records.Record.{Record}
use Rattle.cue.proofs.PackingLaws.{record_bytes_le, space-again}
use Rattle.cue.proofs.RecordLaws.{good-element}
use Rattle.cue.proofs.ReadingLaws.{passing}
use Rattle.cue.proofs.WalkLaws.{Remains, remains-all, remains-none, remains-next, records-next, records-end}
use Rattle.text.specs.Number.{ascii}
use Rattle.text.specs.Room.{Filled, filled, put_at, text_left}
use Rattle.text.proofs.HexLaws.{hex_length}
use Rattle.text.proofs.RoomLaws.{put-none, put_rest, put_front, put-within}
use Rattle.cue_text.specs.Assembled.{Left, placed, text_listed}
use Rattle.space_text.specs.SpaceText.{space_word}
use Rattle.list_text.specs.Written.{hex_word, kind_word, value_word, line_of, text_of, written_to, list_written}
use Rattle.list_text.specs.Inside.{text_needed}
use Rattle.list_text.specs.SameList.{SameList}
use Rattle.cue_text.specs.declared.Written.{Written}
use Rattle.list_text.proofs.SameListLaws.{same-list}

pub kind-word_is : (w : Bool) → cond w (ascii "write ") (ascii "read ") ≡ kind_word (pick_kind w)
unfolding kind_word
kind-word_is true = refl
kind-word_is false = refl

-- The bytes of a line.
line-bytes : (x : Step)
    → length (line_of x)
    ≡ length (kind_word x.kind) + length (space_word x.space) + 7 + length (value_word x.kind x.space x.bytes) + 1
unfolding line_of hex_word ascii
line-bytes x = let e = hex_length 4 x.address in simp length-append (omega arith)

-- a space's element by its number
pub element-four : (n : ℕ) → n ≡ 0 → (row (space_of n)).element ≡ 4
unfolding row space_of
element-four n e = rw e refl

pub element-two : (n : ℕ) → is_absent (space_of n) ≡ false → (n ≡ 0 → ⊥) → (row (space_of n)).element ≡ 2
unfolding row is_absent
element-two n =
    space-cases n (λ m s. is_absent s ≡ false → (m ≡ 0 → ⊥) → (row s).element ≡ 2) (λ h z. absurd (z refl)) (λ h z. refl) (λ h z. refl) (λ h z. refl)
    (λ a b c d h z. let y : ◌≡◌ {A = ℕ} 0 1 = cc in absurd (omega arith))

module _ (r : Record) (x : Step) (e : r ≡ brief x) (plain : is_info x.kind ≡ false) where
  space-same : space_of r.space ≡ x.space
  unfolding brief
  space-same = ap (λ (s : Record). space_of s.space) e ∙ space-again x.space

  kind-same : pick_kind r.write ≡ x.kind
  unfolding brief is_write is_info
  kind-same = ap (λ (s : Record). pick_kind s.write) e ∙ go x.kind plain
    where
      go : (k : Kind) → is_info k ≡ false → pick_kind (is_write k) ≡ k
      go read h = refl
      go write h = refl
      go infoRead h = let z : ◌≡◌ {A = ℕ} 0 1 = cc in absurd (omega arith)

  pub read-bytes : (n : ℕ) → n ≡ length (space_word (space_of r.space)) → r.write ≡ false → 13 + n ≡ length (line_of x)
  unfolding kind_word value_word ascii
  read-bytes n h w =
      let k : read ≡ x.kind = rw w at kind-same in
      let l = line-bytes x in
      rw (l, ← k, ← space-same, ← h) (omega arith)

  write_bytes : (n d : ℕ) → n ≡ length (space_word (space_of r.space)) → r.write ≡ true → (row (space_of r.space)).element ≡ d
      → 17 + n + 2 * d ≡ length (line_of x)
  unfolding kind_word value_word hex_word ascii
  write_bytes n d h w q =
      let k : write ≡ x.kind = rw w at kind-same in
      let l = line-bytes x in
      let v = hex_length (2 * (row (space_of r.space)).element) (number x.bytes) in
      rw (l, ← k, ← space-same, ← h) (omega arith)

  pub write-four : (n : ℕ) → n ≡ length (space_word (space_of r.space)) → r.write ≡ true → r.space ≡ 0 → 13 + n + 12 ≡ length (line_of x)
  write-four n h w z = let e = write_bytes n 4 h w (element-four r.space z) in omega arith

  pub write_two : (n : ℕ) → n ≡ length (space_word (space_of r.space)) → r.write ≡ true → is_absent x.space ≡ false → (r.space ≡ 0 → ⊥)
      → 13 + n + 8 ≡ length (line_of x)
  write_two n h w there z = let e = write_bytes n 2 h w (element-two r.space (rw space-same there) z) in omega arith

-- The first pass: from a record on, with so many bytes and lines before it.
needed_from : ℕ → ℕ → Listed → Answer
needed_from bytes count (refused n i) = Answer.refused n i
needed_from bytes count (records xs) = Answer.accepted ((bytes + length (text_of xs)) ∷ (count + length xs) ∷ [])

needed-first : (v : Listed) → text_needed v ≡ needed_from 0 0 v
unfolding text_needed needed_from
needed-first (refused n i) = refl
needed-first (records xs) = rw (zero-add, zero-add) refl

needed-next : (bytes count : ℕ) (x : Step) (v : Listed) → needed_from bytes count (with_record x v) ≡ needed_from (bytes + length (line_of x)) (count + 1) v
unfolding needed_from with_record text_of join_all
needed-next bytes count x (refused n i) = refl
needed-next bytes count x (records xs) =
    let e : bytes + length (line_of x ++ text_of xs) ≡ bytes + length (line_of x) + length (text_of xs) = rw length-append (omega arith) in
    let f : count + length (x ∷ xs) ≡ count + 1 + length xs = omega arith in
    rw (e, f) refl

pub record Counting (list rest : List ℕ) (index bytes : ℕ) : Type 0 where
  fuel : ℕ
  enough : length rest ≤ fuel
  held : text_needed (records_of list) ≡ needed_from bytes index (records_from fuel index rest)
  pub few : index ≤ 100000
  pub small : bytes ≤ 36 * index

pub counting-first : (list : List ℕ) → Counting list list 0 0
unfolding records_of
counting-first list =
    record { fuel = length list; enough = le_refl _; held = needed-first (records_of list); few = omega arith; small = omega arith }

-- at a record that a rule refuses, and past one that none does
records-refused : (fuel index : ℕ) (rest : List ℕ) (n : ℕ) → (length rest ≡ 0 → ⊥) → length rest ≤ fuel → n ≡ first (record_refusals index rest)
    → (n ≡ 0 → ⊥) → records_from fuel index rest ≡ refused n index
unfolding records_from
records-refused fuel index [] n h l e z = absurd (h refl)
records-refused zero index (b ∷ bs) n h l e z = absurd (omega arith)
records-refused (suc fuel) index (b ∷ bs) n h l e z = go (first (record_refusals index (b ∷ bs))) e
  where
    v : Listed
    v = with_record (record_step (b ∷ bs)) (records_from fuel (index + 1) (drop (record_bytes (record_kind (b ∷ bs))) (b ∷ bs)))

    go : (k : ℕ) → n ≡ k → listed_at k index v ≡ refused n index
    go zero q = absurd (z q)
    go (suc k) q = rw q refl

counted-on : (fuel index : ℕ) (rest : List ℕ) (bytes : ℕ) → (length rest ≡ 0 → ⊥) → length rest ≤ fuel → first (record_refusals index rest) ≡ 0
    → (k : ℕ) × ((length (drop (record_bytes (record_kind rest)) rest) ≤ k)
    × (needed_from bytes index (records_from fuel index rest)
    ≡ needed_from (bytes + length (line_of (record_step rest))) (index + 1)
    (records_from k (index + 1) (drop (record_bytes (record_kind rest)) rest))))
counted-on zero index rest bytes h l e = absurd (h (omega arith))
counted-on (suc fuel) index rest bytes h l e =
    let some = record_bytes_le (record_kind rest) in
    (fuel, (rw length-drop (omega arith), rw (records-next fuel index rest (omega arith) e) (needed-next bytes index (record_step rest) _)))

module _ {list rest : List ℕ} {index bytes : ℕ} (s : Counting list rest index bytes) where
  pub counting-last : length rest ≡ 0 → Answer.accepted (bytes ∷ index ∷ []) ≡ text_needed (records_of list)
  unfolding needed_from text_of join_all
  counting-last e = sym (s.held ∙ go rest e)
    where
      go : (l : List ℕ) → length l ≡ 0 → needed_from bytes index (records_from s.fuel index l) ≡ Answer.accepted (bytes ∷ index ∷ [])
      go [] h = rw (records-end s.fuel index, add-zero, add-zero) refl
      go (b ∷ bs) h = absurd (omega arith)

  module _ (more : length rest ≡ 0 → ⊥) (n : ℕ) (f : n ≡ first (record_refusals index rest)) where
    pub counting-refused : (n ≡ 0 → ⊥) → Answer.refused n index ≡ text_needed (records_of list)
    unfolding needed_from
    counting-refused z = sym (s.held ∙ rw (records-refused s.fuel index rest n more s.enough f z) refl)

    module _ (g : n ≡ 0) (r : Record) (a : r ≡ record_at rest) (k : ℕ)
        (told : (x : Step) → r ≡ brief x → is_info x.kind ≡ false → is_absent x.space ≡ false → k ≡ length (line_of x)) where
      good : first (record_refusals index rest) ≡ 0
      good = sym f ∙ g

      line : k ≡ length (line_of (record_step rest))
      line =
          let p = passing index rest good in
          told (record_step rest) (a ∙ p.read) p.plain (good-element (record_step rest) p.good).0

      module _ (m : ℕ) (e : m ≡ record_bytes (pick_kind r.write)) where
        size : m ≡ record_bytes (record_kind rest)
        unfolding record_at record_kind
        size = e ∙ ap (λ (q : Record). record_bytes (pick_kind q.write)) a

        pub counting-whole : m ≤ length rest
        unfolding record_step
        counting-whole = rw size (passing index rest good).bytes

        pub counting-some : 1 ≤ m
        counting-some = rw size (omega (arith, record_bytes_le (record_kind rest)))

        pub counting-next : k ≤ 36 → Counting list (take (length rest - m) (drop m rest)) (index + 1) (bytes + k)
        counting-next l =
            let other = (passing index rest good).few in
            let few = s.few in
            let small = s.small in
            let (fuel, (enough, on)) = counted-on s.fuel index rest bytes more s.enough good in
            let later = records_from fuel (index + 1) (drop (record_bytes (record_kind rest)) rest) in
            record {
              fuel = fuel;
              enough = rw (tail-whole, size) enough;
              held = s.held ∙ rw (tail-whole, size) (on ∙ ap (λ (j : ℕ). needed_from (bytes + j) (index + 1) later) (sym line));
              few = omega arith;
              small = omega arith;
            }

-- A record's line, as the code puts it.
four_bytes : (l : List ℕ) → number (take 2 l) + 65536 * number (take 2 (drop 2 l)) ≡ number (take 4 (take 4 l))
unfolding number
four_bytes [] = omega arith
four_bytes (a ∷ []) = omega arith
four_bytes (a ∷ b ∷ []) = omega arith
four_bytes (a ∷ b ∷ c ∷ []) = omega arith
four_bytes (a ∷ b ∷ c ∷ d ∷ l) = omega arith

module _ (s low : ℕ) (rest : List ℕ) (there : is_absent (space_of s) ≡ false) (e : low ≡ number (take 2 (drop 6 rest))) where
  abbrev value_hex : List ℕ
  value_hex = hex_word (2 * (row (space_of s)).element) (number (take (row (space_of s)).element (bytes_of_value rest)))

  pub value-four : (high : ℕ) → high ≡ number (take 2 (drop 8 rest)) → s ≡ 0 → hex_word 8 (low + 65536 * high) ≡ value_hex
  unfolding bytes_of_value
  value-four high f z = rw (element-four s z, e, f, ← drop-drop 2 6 rest, four_bytes (drop 6 rest)) refl

  pub value-two : (s ≡ 0 → ⊥) → hex_word 4 low ≡ value_hex
  unfolding bytes_of_value
  value-two z = rw (element-two s there z, e, take-take 2 4 (drop 6 rest) (omega arith)) refl

module _ (rest : List ℕ) (r : Record) (a : r ≡ record_at rest) where
  abbrev line_front : List ℕ
  line_front = kind_word (pick_kind r.write) ++ space_word (space_of r.space) ++ hex_word 4 r.address

  pub read-line_is : r.write ≡ false → line_front ++ ascii "\n" ≡ line_of (record_step rest)
  unfolding line_of record_step record_kind record_space record_at value_word
  read-line_is w =
      let q : eqb (mark_at rest) write_mark ≡ false = sym (ap (λ (t : Record). t.write) a) ∙ w in
      rw (a, q, append-nil) refl

  pub write-line_is : r.write ≡ true
      → line_front ++ hex_word (2 * (row (space_of r.space)).element) (number (take (row (space_of r.space)).element (bytes_of_value rest))) ++ ascii "\n"
      ≡ line_of (record_step rest)
  unfolding line_of record_step record_kind record_space record_at value_word carried
  write-line_is w =
      let q : eqb (mark_at rest) write_mark ≡ true = sym (ap (λ (t : Record). t.write) a) ∙ w in
      rw (a, q) refl

-- The second pass: the text of the records left, put from here on, is the whole text put at the front.
pub record Putting (list rest out₀ out : List ℕ) (at : ℕ) : Type 0 where
  xs : List Step
  list-records : records_of list ≡ records xs
  index : ℕ
  todo : List Step
  remains : Remains index rest todo
  put : put_at (text_of todo) at out ≡ put_at (text_of xs) 0 out₀
  pub size : length out ≡ length out₀
  within : at ≤ length out

pub putting_first : (list out : List ℕ) (xs : List Step) → records_of list ≡ records xs → Putting list list out out 0
putting_first list out xs e =
    record { xs = xs; list-records = e; index = 0; todo = xs; remains = remains-all list xs e; put = refl; size = refl; within = omega arith }

module _ {list rest out₀ out : List ℕ} {at : ℕ} (s : Putting list rest out₀ out at) where
  pub putting_last : length rest ≡ 0 → (ys : List Step) → records_of list ≡ records ys → out ≡ (put_at (text_of ys) 0 out₀).room
  unfolding text_of join_all
  putting_last e ys q =
      let l = s.list-records in
      let same : s.xs ≡ ys = cc in
      let none : put_at [] at out ≡ put_at (text_of s.xs) 0 out₀ = rw (remains-none s.remains e) at s.put in
      ap (λ (f : Filled). f.room) (put-none out at s.within ∙ none) ∙ ap (λ (zs : List Step). (put_at (text_of zs) 0 out₀).room) same

  module _ (more : length rest ≡ 0 → ⊥) (r : Record) (a : r ≡ record_at rest) where
    here : first (record_refusals s.index rest) ≡ 0
    here = (remains-next s.remains more).fine

    pub putting_there : is_absent (space_of r.space) ≡ false
    unfolding record_at record_step record_space
    putting_there = rw a (good-element (record_step rest) (passing s.index rest here).good).0

    module _ (m : ℕ) (e : m ≡ record_bytes (pick_kind r.write)) where
      part : m ≡ record_bytes (record_kind rest)
      unfolding record_at record_kind
      part = e ∙ ap (λ (q : Record). record_bytes (pick_kind q.write)) a

      pub putting_whole : m ≤ length rest
      unfolding record_step
      putting_whole = rw part (passing s.index rest here).bytes

      pub putting_some : 1 ≤ m
      putting_some = rw part (omega (arith, record_bytes_le (record_kind rest)))

      pub putting_next : (next : ℕ) (out₁ : List ℕ) → filled next out₁ ≡ put_at (line_of (record_step rest)) at out
          → Putting list (take (length rest - m) (drop m rest)) out₀ out₁ next
      unfolding text_of join_all
      putting_next next out₁ f =
          let n = remains-next s.remains more in
          let w = put-within (line_of (record_step rest)) out at f in
          let whole : put_at (text_of (record_step rest ∷ n.later)) at out ≡ put_at (text_of s.xs) 0 out₀ = rw n.same at s.put in
          record {
            xs = s.xs;
            list-records = s.list-records;
            index = s.index + 1;
            todo = n.later;
            remains = rw (tail-whole, part) n.remains;
            put = put_rest (line_of (record_step rest)) (text_of n.later) at out f ∙ whole;
            size = w.1 ∙ s.size;
            within = w.0;
          }

-- The two passes together are the definition.
abbrev pub Both : Answer → List ℕ → Left → Type 0
Both a after l = record { answer = a; room = after } ≡ l

module _ (list room : List ℕ) where
  refused-to : (v : Listed) (n i : ℕ) → Answer.refused n i ≡ text_needed v → Both (Answer.refused n i) room (written_to v room)
  unfolding text_needed written_to
  refused-to (refused m j) n i e = rw e refl
  refused-to (records xs) n i e = let z : ◌≡◌ {A = ℕ} 0 1 = cc in absurd (omega arith)

  -- as the code comes to it: `a` is the first pass's answer
  module _ (a : Result Written Refusal) (e : text_listed a ≡ text_needed (records_of list)) where
    pub turned-away : (r : Refusal) → a ≡ Err r → Both (text_listed a) room (list_written list room)
    unfolding text_listed list_written
    turned-away r d = rw d (refused-to (records_of list) _ _ (rw d at e))

    module _ (w : Written) (d : a ≡ Ok w) where
      abbrev b : ℕ
      b = w.bytes

      abbrev n : ℕ
      n = w.count

      counted : Answer.accepted (b ∷ n ∷ []) ≡ text_needed (records_of list)
      unfolding text_listed
      counted = rw d at e

      -- the list's records, and what was counted of them
      good-list : (xs : List Step) × ((records_of list ≡ records xs) × (b ≡ length (text_of xs)) × (n ≡ length xs))
      unfolding text_needed
      good-list = go (records_of list) refl counted
        where
          go : (v : Listed) → records_of list ≡ v → Answer.accepted (b ∷ n ∷ []) ≡ text_needed v
              → (xs : List Step) × ((records_of list ≡ records xs) × (b ≡ length (text_of xs)) × (n ≡ length xs))
          go (refused m j) p q = let z : ◌≡◌ {A = ℕ} 0 1 = cc in absurd (omega arith)
          go (records xs) p q = (xs, (p, cc, cc))

      pub may_write : (xs : List Step) × (records_of list ≡ records xs)
      may_write = let (xs, (l, size, count)) = good-list in (xs, l)

      pub too_small : length room < b → Both (Answer.refused 26 b) room (list_written list room)
      unfolding list_written written_to placed
      too_small h =
          let (xs, (l, size, count)) = good-list in
          rw (l, lt-ltb (length room) (length (text_of xs)) (rw size at h), ← size) refl

      module _ (after : List ℕ) (fits : b ≤ length room)
          (put : (xs : List Step) → records_of list ≡ records xs → after ≡ (put_at (text_of xs) 0 room).room) where
        put_whole : (xs : List Step) → records_of list ≡ records xs → b ≡ length (text_of xs) → after ≡ text_of xs ++ drop (length (text_of xs)) room
        unfolding text_left
        put_whole xs l size = put xs l ∙ ap (λ (f : Filled). f.room) (put_front (text_of xs) room (omega arith))

        written_is : (xs : List Step) → records_of list ≡ records xs → b ≡ length (text_of xs) → n ≡ length xs
            → Both (Answer.accepted (b ∷ n ∷ [])) after (list_written list room)
        unfolding list_written written_to placed
        written_is xs l size count =
            rw (l, le-ltb (length room) (length (text_of xs)) (rw size at fits), put_whole xs l size, size, count) refl

        pub all-written : Both (Answer.accepted (b ∷ n ∷ [])) after (list_written list room)
        all-written = let (xs, (l, size, count)) = good-list in written_is xs l size count

-- What was written gives the list again.
placed-front : (bytes room : List ℕ) (n count : ℕ) (a : Answer) (after : List ℕ) → Both a after (placed bytes count room)
    → (m : ℕ) → a ≡ Answer.accepted (n ∷ m ∷ []) → take n after ≡ bytes
unfolding placed
placed-front bytes room n count a after e m q = go (ltb (length room) (length bytes)) e
  where
    go : (b : Bool)
        → Both a after
        (cond b (record { answer = Answer.refused 26 (length bytes); room = room })
        (record { answer = Answer.accepted (length bytes ∷ count ∷ []); room = bytes ++ drop (length bytes) room }))
        → take n after ≡ bytes
    go true e =
        let p : a ≡ Answer.refused 26 (length bytes) = ap (λ (k : Left). k.answer) e in
        let z : ◌≡◌ {A = ℕ} 0 1 = cc in
        absurd (omega arith)
    go false e =
        let p : a ≡ Answer.accepted (length bytes ∷ count ∷ []) = ap (λ (k : Left). k.answer) e in
        let w : after ≡ bytes ++ drop (length bytes) room = ap (λ (k : Left). k.room) e in
        let s : length bytes ≡ n = cc in
        rw w (take_at bytes (drop (length bytes) room) n s)

pub same-written : (list room : List ℕ) → Octets list → (a : Answer) (after : List ℕ) → Both a after (list_written list room)
    → (bytes count : ℕ) → a ≡ Answer.accepted (bytes ∷ count ∷ []) → SameList list (take bytes after)
unfolding list_written written_to
same-written list room o a after e bytes count q = go (records_of list) refl e
  where
    go : (v : Listed) → records_of list ≡ v → Both a after (written_to v room) → SameList list (take bytes after)
    go (refused n i) l e =
        let p : a ≡ Answer.refused n i = ap (λ (k : Left). k.answer) e in
        let z : ◌≡◌ {A = ℕ} 0 1 = cc in
        absurd (omega arith)
    go (records xs) l e = rw (placed-front (text_of xs) room bytes (length xs) a after e count q) (same-list list xs o l)

-- A line has at most 34 bytes, and a list's text those of a hundred thousand.
line-most : (x : Step) → is_info x.kind ≡ false → length (line_of x) ≤ 34
unfolding is_info kind_word space_word value_word hex_word row ascii
line-most x plain = let l = line-bytes x in let b = go x.kind x.space x.bytes plain in omega arith
  where
    go : (k : Kind) (s : Space) (bytes : List ℕ) → is_info k ≡ false
        → length (kind_word k) + length (space_word s) + 7 + length (value_word k s bytes) + 1 ≤ 34
    go read registers bytes h = omega arith
    go read eeprom bytes h = omega arith
    go read status bytes h = omega arith
    go read information bytes h = omega arith
    go read absent bytes h = omega arith
    go write registers bytes h = omega (arith, hex_length 8 (number bytes))
    go write eeprom bytes h = omega (arith, hex_length 4 (number bytes))
    go write status bytes h = omega (arith, hex_length 4 (number bytes))
    go write information bytes h = omega (arith, hex_length 4 (number bytes))
    go write absent bytes h = omega (arith, hex_length 2 (number bytes))
    go infoRead s bytes h = let z : ◌≡◌ {A = ℕ} 0 1 = cc in absurd (omega arith)

text-few : (index : ℕ) (rest : List ℕ) (todo : List Step) → index ≤ most_records → Remains index rest todo
    → length (text_of todo) + 34 * index ≤ 34 * most_records
unfolding text_of join_all
text-few index rest [] few r = omega arith
text-few index [] (x ∷ todo) few r =
    let e = remains-none r refl in
    let z : ◌≡◌ {A = ℕ} 0 1 = cc in
    absurd (omega arith)
text-few index (b ∷ bs) (x ∷ todo) few r =
    let n = remains-next r (λ z. omega arith) in
    let p = passing index (b ∷ bs) n.fine in
    let other = p.few in
    let e = n.same in
    let here : x ≡ record_step (b ∷ bs) = cc in
    let later : n.later ≡ todo = cc in
    let most : length (line_of x) ≤ 34 = rw here (line-most (record_step (b ∷ bs)) p.plain) in
    let next = text-few (index + 1) (drop (record_bytes (record_kind (b ∷ bs))) (b ∷ bs)) todo (omega arith) (rw later at n.remains) in
    rw length-append (omega arith)

pub text-most : (list : List ℕ) (xs : List Step) → records_of list ≡ records xs → length (text_of xs) ≤ 34 * most_records
text-most list xs e = omega (arith, text-few 0 list xs (omega arith) (remains-all list xs e))
