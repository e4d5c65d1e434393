-- The unlock cell and the packet count are invisible: packets that hold records, run in order, do what the records do one by one.
use Prim.Native.Nat.{ℕ, suc, ◌+◌, ◌%◌, ◌≤◌}
use mathlib.Core.Path.{◌≡◌, refl, sym, ap, ◌∙◌}
use mathlib.Core.Logic.{inl, inr, ◌≢◌}
use mathlib.Core.Bool.{Bool, true, false, ◌&&◌, ◌||◌}
use mathlib.Core.List.{List, [], ◌∷◌, ◌++◌}
use native.Mathlib.Omega.{arith}
use native.Mathlib.Decide.{dec_le}
use lib.Dec.{eqb}
use lib.ListN.{length, take, drop, get_or}
use lib.Seq.{sets, take-append_seam}
use borrow.Author.Tests.{eqb-true, eq-eqb, ltb-false, not-false}
use Rattle.lbp16.specs.Space.{Space, registers, eeprom, status, information, absent, row, area_row}
use Rattle.lbp16.specs.declared.pointer.Pointers.{Pointers}
use Rattle.packet.specs.Step.{Kind, read, write, infoRead, Step, is_info, row_by, at, carried, answered, source, stored, after, seen}
use Rattle.packet.specs.Step.{store_after, values_read}
use Rattle.packet.specs.Bytes.{number, bytes_of}
use Rattle.packet.specs.Step.{is_status}
use Rattle.packet.specs.Inside.{status_write}
use Rattle.packet.specs.Rules.{misaligned, past_end}
use Rattle.packet.proofs.StoreLaws.{Apart, get_d_sets, sets_sets, sets_twice, slice_sets, length-after, store-after_append}
use Rattle.packet.proofs.StoreLaws.{values-read_append}
use Rattle.packet.proofs.StepLaws.{row_plain}
use Rattle.packet.specs.Command.{limit}
use Rattle.packet.specs.Verdict.{answer_to}
use Rattle.card.specs.Run.{unlock_cell, count_cell, cleared, bytes_of_count, counted, bad_state, outcome}
use Rattle.card.proofs.RunLaws.{length-cleared, cleared-outside, cleared-inside, good-state, state-again, run_accepted}
use Rattle.card.proofs.RunLaws.{length-counted, counted-outside, count-on, count_risen, count-cleared, values-counted}
use Rattle.cue.specs.Records.{reserved, bad_element}
use Rattle.cue.specs.Play.{is_accepted, reply_length, play}
use Rattle.cue.specs.Demand3.{SameAsRecords, Off, unlock_after, count_after}
use Rattle.cue.proofs.RecordLaws.{good-element}
use Rattle.cue.proofs.Relations.{Mixed, Good, Holds}

-- An aligned element within its space overlaps the 2-byte cell at address k of space 6 only if it is that cell.
off-cell_at : (k : ℕ) → k % 2 ≡ 0 → k ≤ 30 → (s : Space) (a : ℕ) → a % (row s).element ≡ 0
    → a + (row s).element ≤ (row s).bytes → (eqb a k && is_status s) ≡ false
    → Apart ((row s).place + a) (row s).element (65664 + k) 2
unfolding row is_status
off-cell_at k even low registers a m e u = inl (omega arith)
off-cell_at k even low eeprom a m e u = inl (omega arith)
off-cell_at k even low status a m e u = go (dec_le a k)
  where
    other : a ≢ k
    other q = let z : (true && true) ≡ false = rw (eq-eqb a k q) at u in let c : ◌≡◌ {A = ℕ} 0 1 = cc in omega arith

    go : Dec (a ≤ k) → Apart (65664 + a) 2 (65664 + k) 2
    go (yes l) = inl (omega (arith, other))
    go (no g) = inr (omega arith)
off-cell_at k even low information a m e u = inr (omega arith)
off-cell_at k even low absent a m e u = inl (omega arith)

-- The two cells that a list may not name overlap no element of a good record.
pub record OffCells (i w : ℕ) : Type 0 where
  pub unlock : Apart i w unlock_cell 2
  pub count : Apart i w count_cell 2

pub off-cells : (x : Step) → bad_element x ≡ false → is_info x.kind ≡ false → OffCells (at x) (row x.space).element
unfolding at misaligned past_end reserved
off-cells x h p =
    let e = row_plain x.kind x.space p in
    let g = good-element x h in
    let m = eqb-true _ _ (not-false _ g.1) in
    let l : x.address + (row x.space).element ≤ (row x.space).bytes =
    rw e at (ltb-false (row_by x.kind x.space).bytes (x.address + (row_by x.kind x.space).element) g.2) in
    let r = neither (eqb x.address 0x1A) (eqb x.address 0x0A) (is_status x.space) g.4 in
    rw e
    (record {
      unlock = off-cell_at 0x1A refl (omega arith) x.space x.address m l r.0;
      count = off-cell_at 0x0A refl (omega arith) x.space x.address m l r.1;
    })
  where
    neither : (a b s : Bool) → ((a || b) && s) ≡ false → ((a && s) ≡ false) × ((b && s) ≡ false)
    neither true true s h = (h, h)
    neither true false s h = (h, refl)
    neither false b s h = (refl, h)

-- the store with both cells at 0: two stores agree off the cells if these are equal
unfoldable pub blank : List ℕ → List ℕ
blank store = cleared (sets store count_cell (0 ∷ 0 ∷ []))

pub blank-outside : (store : List ℕ) (i : ℕ) → Off unlock_cell i → Off count_cell i
    → get_or (blank store) i 0 ≡ get_or store i 0
unfolding blank
blank-outside store i h k = cleared-outside _ i h ∙ get_d_sets store i count_cell (0 ∷ 0 ∷ []) 0 k

-- A record does the same whether the cells are cleared before or after it, and reads the same.
blank-stored : (k : Kind) (s : Space) (i : ℕ) (bs store : List ℕ) → length bs ≡ carried k s → OffCells i (row s).element
    → blank (stored k i bs store) ≡ stored k i bs (blank store)
unfolding blank cleared stored carried
blank-stored read s i bs store e h = refl
blank-stored write s i bs store e h =
    rw (sets_sets store i bs count_cell (0 ∷ 0 ∷ []) (rw e h.count))
    (sets_sets (sets store count_cell (0 ∷ 0 ∷ [])) i bs unlock_cell (0 ∷ 0 ∷ []) (rw e h.unlock))
blank-stored infoRead s i bs store e h = refl

seen-blank : (k : Kind) (s : Space) (i : ℕ) (bs store : List ℕ) → OffCells i (row s).element
    → take (answered k s) (drop i (source k bs store)) ≡ take (answered k s) (drop i (source k bs (blank store)))
unfolding blank cleared answered source
seen-blank read s i bs store h =
    sym
    (slice_sets (sets store count_cell (0 ∷ 0 ∷ [])) i (row s).element unlock_cell (0 ∷ 0 ∷ []) h.unlock
    ∙ slice_sets store i (row s).element count_cell (0 ∷ 0 ∷ []) h.count)
seen-blank write s i bs store h = refl
seen-blank infoRead s i bs store h = refl

-- An unlock write is cleared away, and so is what a packet's end does.
blank-unlock : (bs store : List ℕ) → length bs ≡ 2 → blank (after (status_write 0x1A bs) store) ≡ blank store
unfolding blank cleared after stored at row_by is_info area_row row
blank-unlock bs store w =
    rw (sets_sets store unlock_cell bs count_cell (0 ∷ 0 ∷ []) (inr (omega arith)))
    (sets_twice (sets store count_cell (0 ∷ 0 ∷ [])) unlock_cell bs (0 ∷ 0 ∷ []) w)

blank-end : (store : List ℕ) → blank (counted (cleared store)) ≡ blank store
unfolding blank counted cleared bytes_of
blank-end store =
    rw (
      sets_twice (cleared store) count_cell (bytes_of 2 (number (bytes_of_count (cleared store)) + 1)) (0 ∷ 0 ∷ []) refl,
      sets_sets store unlock_cell (0 ∷ 0 ∷ []) count_cell (0 ∷ 0 ∷ []) (inr (omega arith)),
    )
    (sets_twice (sets store count_cell (0 ∷ 0 ∷ [])) unlock_cell (0 ∷ 0 ∷ []) (0 ∷ 0 ∷ []) refl)

-- Records and unlock writes leave the packet count.
count-stored : (k : Kind) (s : Space) (i : ℕ) (bs store : List ℕ) → length bs ≡ carried k s
    → Apart i (row s).element count_cell 2 → bytes_of_count (stored k i bs store) ≡ bytes_of_count store
unfolding bytes_of_count stored carried
count-stored read s i bs store e h = refl
count-stored write s i bs store e h = slice_sets store count_cell 2 i bs (rw e (swap h))
  where
    swap : Apart i (row s).element count_cell 2 → Apart count_cell 2 i (row s).element
    swap (inl l) = inr l
    swap (inr l) = inl l
count-stored infoRead s i bs store e h = refl

count_kept : {ss xs : List Step} → Mixed ss xs → Good xs → (store : List ℕ)
    → bytes_of_count (store_after ss store) ≡ bytes_of_count store
unfolding store_after after at row_by is_info area_row row carried
count_kept Mixed.none Good.none store = refl
count_kept (Mixed.same {x = x} m) (Good.more b p w g) store =
    count_kept m g (after x store)
    ∙ count-stored x.kind x.space (at x) x.bytes store w (off-cells x b p).count
count_kept (Mixed.unlock {bs = bs} w v m) g store =
    count_kept m g (after (status_write 0x1A bs) store) ∙ count-stored write status unlock_cell bs store w (inr (omega arith))

-- With unlock writes put in, the records read and leave what they do on the store with the cells cleared.
unseen : {ss xs : List Step} → Mixed ss xs → Good xs → (store : List ℕ)
    → (values_read ss store ≡ values_read xs (blank store)) × (blank (store_after ss store) ≡ store_after xs (blank store))
unfolding values_read store_after seen after answered
unseen Mixed.none Good.none store = (refl, refl)
unseen (Mixed.same {x = x} m) (Good.more b p w g) store =
    let h = off-cells x b p in
    let r = unseen m g (after x store) in
    let e : blank (after x store) ≡ after x (blank store) = blank-stored _ x.space (at x) x.bytes store w h in
    let v : seen x store ≡ seen x (blank store) = seen-blank x.kind x.space (at x) x.bytes store h in
    (rw (v, r.0, e), r.1 ∙ rw e)
unseen (Mixed.unlock {bs = bs} w v m) g store =
    let r = unseen m g (after (status_write 0x1A bs) store) in
    let e = blank-unlock bs store w in
    (rw e at r.0, rw e at r.1)

itself : (xs : List Step) → Mixed xs xs
itself [] = Mixed.none
itself (x ∷ xs) = Mixed.same (itself xs)

-- On stores that agree off the cells records read the same values, and leave stores that agree off the cells.
pub alike : (xs : List Step) → Good xs → (a b : List ℕ) → blank a ≡ blank b
    → (values_read xs a ≡ values_read xs b) × (blank (store_after xs a) ≡ blank (store_after xs b))
alike xs g a b e =
    let l = unseen (itself xs) g a in
    let r = unseen (itself xs) g b in
    (l.0 ∙ ap (values_read xs) e ∙ sym r.0, l.1 ∙ ap (store_after xs) e ∙ sym r.1)

-- With unlock writes put in, the records read the same values and leave the same cells, the two cells apart.
pub invisible : {ss xs : List Step} → Mixed ss xs → Good xs → (store : List ℕ)
    → (values_read ss store ≡ values_read xs store) × (blank (store_after ss store) ≡ blank (store_after xs store))
invisible m g store =
    let a = unseen m g store in
    let b = unseen (itself _) g store in
    (a.0 ∙ sym b.0, a.1 ∙ sym b.1)

pub good-split : (xs ys : List Step) → Good (xs ++ ys) → Good xs × Good ys
good-split [] ys g = (Good.none, g)
good-split (x ∷ xs) ys (Good.more b p w g) = let r = good-split xs ys g in (Good.more b p w r.0, r.1)

pub unlock_zero : (packets : List (List ℕ)) → unlock_after packets 0 ≡ 0
unfolding unlock_after
unlock_zero [] = refl
unlock_zero (p ∷ ps) = refl

-- the count goes on from where a packet left it
count-more : (packet : List ℕ) (packets : List (List ℕ)) (old : List ℕ)
    → count_after packets (bytes_of 2 (number old + 1)) ≡ count_after (packet ∷ packets) old
unfolding count_after
count-more packet [] old = refl
count-more packet (p ∷ ps) old = count-on 2 (number old + 1) _ ∙ ap (bytes_of 2) (omega arith)

-- Any packets that hold the records, run in order, do the same as the records done one by one.
pub run_all : (packets : List (List ℕ)) (xs : List Step) → Holds packets xs → Good xs
    → (store : List ℕ) (p : Pointers) (rooms : ℕ → List ℕ) → bad_state store p ≡ false
    → ((i : ℕ) → length (rooms i) ≡ limit)
    → SameAsRecords xs packets store (play packets rooms store p)
unfolding play outcome answer_to is_accepted reply_length unlock_after count_after values_read store_after
run_all _ _ Holds.none g store p rooms fine ok =
    record {
      accepted = refl;
      values = refl;
      bytes = refl;
      cells = λ i h k. refl;
      unlock = λ i h k. refl;
      count = refl;
    }
run_all _ _ (Holds.more {packet = packet} {packets = packets} {ss = ss} {xs = xs} {ys = ys} d m h) g store p rooms fine ok =
    let gs = good-split xs ys g in
    let state = good-state store p fine in
    let j = d.judged p state.1 in
    let q = j.0.pointers in
    let left = store_after ss store in
    let next = counted (cleared left) in
    let done = store_after xs store in
    let kept : length (cleared left) ≡ length store = length-cleared left ∙ length-after ss store in
    let n = length-counted (cleared left) ∙ kept in
    let w : unlock_cell + 2 ≤ length left = rw (length-after, state.0) (omega arith) in
    let one = invisible m gs.0 store in
    let both = alike ys gs.1 next done (blank-end left ∙ one.1) in
    let again = state-again store next p q n j.3 fine in
    let r = run_all packets ys h gs.1 next q (λ i. rooms (suc i)) again (λ i. ok (suc i)) in
    let seen = rw j.2 at (values-counted packet store p j.0 fine j.1) in
    let old : bytes_of_count (cleared left) ≡ bytes_of_count store = count-cleared left ∙ count_kept m gs.0 store in
    rw (run_accepted packet store p (rooms 0) j.0 fine (ok 0) d.short j.1, j.2)
    (record {
      accepted = r.accepted;
      values = rw (← seen, take-append_seam, values-read_append, r.values, both.0, one.0);
      bytes = r.bytes ∙ length-after ys next ∙ n ∙ sym (length-after (xs ++ ys) store);
      cells =
          λ i k l.
          r.cells i k l
          ∙ sym (blank-outside (store_after ys next) i k l)
          ∙ ap (λ s. get_or s i 0) both.1
          ∙ blank-outside (store_after ys done) i k l
          ∙ rw store-after_append refl;
      unlock =
          λ i k l.
          r.unlock i k l
          ∙ rw (counted-outside (cleared left) i (inr (omega arith)), cleared-inside left i w k l) (unlock_zero packets);
      count =
          r.count
          ∙ ap (count_after packets) (count_risen (cleared left) (kept ∙ state.0) ∙ ap (λ o. bytes_of 2 (number o + 1)) old)
          ∙ count-more packet packets (bytes_of_count store);
    })
