-- Laws of SPI headers and bursts.
use Prim.Native.Nat.{ℕ, zero, suc, ◌+◌, ◌*◌, ◌/◌, ◌%◌, ◌≤◌, ◌<◌}
use mathlib.Core.Path.{◌≡◌, refl, ap, sym, ◌∙◌}
use mathlib.Core.Logic.{◌⊎◌, inl, inr}
use mathlib.Core.List.{List, [], ◌∷◌}
use mathlib.Core.Bool.{Bool, true, false, not, ◌||◌, ◌&&◌, cond}
use native.Mathlib.Omega.{arith}
use lib.ListN.{length, drop, get_or, replicate, length-drop, length-replicate}
use lib.Dec.{eqb, ltb}
use borrow.Author.Tests.{eqb-true, eqb-false, eq-eqb, ne_eqb, ltb-false, le-ltb, not-false}
use Rattle.lbp16.proofs.BoolLaws.{or_false}
use Rattle.lbp16.proofs.WordLaws.{bit_le, bit-read, bit-written}
use Rattle.lbp16.specs.Answer.{Answer, refusal, rule_number}
use Rattle.lbp16.specs.Space.{registers, row, store_bytes}
use Rattle.lbp16.specs.Word.{bit}
use Rattle.packet.specs.Step.{Kind, read, write, infoRead, is_info, is_write, store_after, values_read}
use Rattle.packet.specs.Rules.{Rule as TableRow, first, any_step, misaligned, past_end}
use Rattle.packet.specs.Command.{elements}
use Rattle.packet.proofs.RuleLaws.{none-holds, first-of_none, FirstHolds, first_holds, Lowest, first-lowest}
use Rattle.packet.proofs.ElementLaws.{past-span}
use Rattle.packet.proofs.StepLaws.{pick-plain, row_plain}
use Rattle.packet.proofs.StoreLaws.{length-after}
use Rattle.packet.proofs.CountLaws.{length-elements}
use Rattle.packet.specs.Verdict.{verdict_listed}
use Rattle.lbp16.specs.declared.Refusal.{Refusal}
use Rattle.lbp16.specs.declared.Rule.{Rule}
use Rattle.lbp16.proofs.RuleLaws.{rule_number_range}
use Rattle.std.specs.Prelude.{Result, Err}
use Rattle.std.specs.Option.{unwrap_or}
use Rattle.std.specs.List.{slice_get}
use Rattle.card.specs.Cells.{cells_within, cells, cells_read, filled, cells_written}
use Rattle.card.proofs.CellLaws.{all-within, read_by, written-by}
use Rattle.card.proofs.StepBlockLaws.{reads_keep}
use Rattle.spi.specs.declared.Header.{Header}
use Rattle.spi.specs.Spi.{read_command, write_command, header_of, header_word, other_command, answer_of, header_written, header_listed}
use Rattle.spi.specs.Spi.{first_word, bytes_of_words, words_of_bytes, burst_kind, burst_steps, came, burst_refusals, burst_words}
use Rattle.spi.specs.Spi.{Burst, burst_outcome, run_burst, burst_left, most_in_burst}
use Rattle.spi.proofs.CellStepLaws.{Cells, steps-within, cells-fewer, within-store, reads-cells, writes_fill, filled-outside}

-- A header in range comes back from its word. The other way holds but for the four unused bits.

pub record InRange (h : Header) : Type 0 where
  pub address : h.address < 65536
  pub command : h.command < 16
  pub count : h.count < 128

pub header-of_word : (h : Header) → InRange h → header_of (header_word h) ≡ h
unfolding header_word header_of
header-of_word h r =
    let b = bit_le h.increment in
    let w = header_word h in
    let address : w / 65536 ≡ h.address = omega arith in
    let command : w / 4096 % 16 ≡ h.command = omega arith in
    let increment : w / 2048 % 2 ≡ bit h.increment = omega arith in
    let count : w / 16 % 128 ≡ h.count = omega arith in
    λ i.
    record {
      address = address i;
      command = command i;
      increment = (ap (λ (n : ℕ). eqb n 1) increment ∙ bit-read h.increment) i;
      count = count i;
    }

-- They are written as 0.
pub word-of_header : (w : ℕ) → header_word (header_of w) ≡ w / 16 * 16
unfolding header_word header_of
word-of_header w = rw (bit-written (w / 2048 % 2) (omega arith)) (omega arith)

-- the rules that a header is written by
abbrev pub header_rules : Header → List TableRow
header_rules h =
    record { number = 32; holds = other_command h }
    ∷ record { number = 33; holds = eqb h.count 0 || ltb 127 h.count }
    ∷ []

known-command : (h : Header) → other_command h ≡ false → (h.command ≡ read_command) ⊎ (h.command ≡ write_command)
unfolding other_command
known-command h e = go (eqb h.command read_command) (eqb h.command write_command) refl refl e
  where
    go : (a b : Bool) → eqb h.command read_command ≡ a → eqb h.command write_command ≡ b → (not a && not b) ≡ false
        → (h.command ≡ read_command) ⊎ (h.command ≡ write_command)
    go true b p q e = inl (eqb-true _ _ p)
    go false true p q e = inr (eqb-true _ _ q)
    go false false p q e = let z : ◌≡◌ {A = ℕ} 0 1 = cc in absurd (omega arith)

command-known : (h : Header) → (h.command ≡ read_command) ⊎ (h.command ≡ write_command) → other_command h ≡ false
unfolding other_command
command-known h (inl e) = rw e
command-known h (inr e) = rw e

-- A header is written exactly as its fields are allowed to be.
pub record Writable (h : Header) : Type 0 where
  pub command : (h.command ≡ read_command) ⊎ (h.command ≡ write_command)
  pub low : 1 ≤ h.count
  pub high : h.count ≤ 127

pub writable : (h : Header) → first (header_rules h) ≡ 0 → Writable h
writable h e =
    let (other, (count, end)) = none-holds (header_rules h) (omega arith) e in
    let (none, many) = or_false _ _ count in
    record {
      command = known-command h other;
      low = let n = eqb-false h.count 0 none in omega arith;
      high = ltb-false 127 h.count many;
    }

pub command_le : (h : Header) → Writable h → h.command ≤ 11
command_le h r = go r.command
  where
    go : (h.command ≡ read_command) ⊎ (h.command ≡ write_command) → h.command ≤ 11
    go (inl e) = omega arith
    go (inr e) = omega arith

pub command_fits : (h : Header) → false ≡ other_command h → (eqb h.count 0 || ltb 127 h.count) ≡ false → h.command ≤ 11
unfolding first
command_fits h e f = command_le h (writable h (rw (← e, f) refl))

-- A header refused, and a header written, as the code answers them.
pub header-number : (h : Header) → first (header_rules h) ≡ cond (other_command h) 32 (cond (eqb h.count 0 || ltb 127 h.count) 33 0)
unfolding first
header-number h = refl

pub header_refused : (h : Header) (n : ℕ) → n ≡ first (header_rules h) → (n ≡ 0 → ⊥) → header_written h ≡ Answer.refused n 0
unfolding header_written
header_refused h zero e k = absurd (k refl)
header_refused h (suc n) e k = rw (← e)

pub header_refused_by : (h : Header) (r : Rule) (x : Refusal) → x ≡ record { rule = r; place = 0 }
    → rule_number r ≡ first (header_rules h) → header_listed (Err x) ≡ header_written h
unfolding header_listed
header_refused_by h r x e q = ap refusal e ∙ sym (header_refused h (rule_number r) q (λ z. omega (arith, rule_number_range r)))

pub header-accepted : (h : Header) → first (header_rules h) ≡ 0 → header_written h ≡ Answer.accepted (header_word h ∷ [])
unfolding header_written
header-accepted h e = rw e

-- The word that is written reads back as the header.
pub written-reads_back : (h : Header) (w : ℕ) → h.address < 65536 → header_written h ≡ Answer.accepted (w ∷ [])
    → header_of w ≡ h
unfolding header_written
written-reads_back h w a e = go (first (header_rules h)) refl e
  where
    go : (n : ℕ) → first (header_rules h) ≡ n → answer_of n (header_word h ∷ []) ≡ Answer.accepted (w ∷ []) → header_of w ≡ h
    go zero q e =
        let r = writable h q in
        let c = command_le h r in
        let same : header_word h ≡ w = cc in
        rw (← same) (header-of_word h (record { address = a; command = omega arith; count = omega arith }))
    go (suc n) q e = let z : ◌≡◌ {A = ℕ} 0 1 = cc in absurd (omega arith)

pub first_or_none : (words : List ℕ) → unwrap_or (slice_get words 0) 0 ≡ first_word words
unfolding first_word
first_or_none [] = refl
first_or_none (w ∷ ws) = refl

-- a burst has no info reads
pub burst-plain : (h : Header) → is_info (burst_kind h) ≡ false
unfolding burst_kind
burst-plain h = pick-plain (eqb h.command write_command)

-- Rule 35 as the code tests it.
pub past_quick : (h : Header) (n : ℕ) (words : List ℕ)
    → any_step past_end (burst_steps h n words) ≡ (not (eqb n 0) && ltb 65536 (h.address + cond h.increment (n * 4) 4))
unfolding burst_steps row
past_quick h n words =
    let r = row_plain (burst_kind h) registers (burst-plain h) in
    rw r at (past-span (burst_kind h) registers n h.address h.increment (bytes_of_words (drop 1 words)))

-- the header of the words sent
abbrev pub header_in : List ℕ → Header
header_in words = header_of (first_word words)

-- A burst that no rule refuses.
pub record Sound (words store room : List ℕ) : Type 0 where
  pub whole : length store ≡ store_bytes
  pub fits : length room ≡ length words
  pub command : ((header_in words).command ≡ read_command) ⊎ ((header_in words).command ≡ write_command)
  pub some : 1 ≤ (header_in words).count
  pub headed : 1 ≤ length words
  pub sent : came words ≤ (header_in words).count
  pub aligned : misaligned (row registers) (header_in words).address ≡ false
  pub inside : any_step past_end (burst_steps (header_in words) (header_in words).count words) ≡ false

module _ (words store room : List ℕ) where
  pub sound : first (burst_refusals words store room) ≡ 0 → Sound words store room
  unfolding burst_refusals
  sound e =
      let (lent, (empty, (other, (none, (sent, (place, end)))))) =
      none-holds (burst_refusals words store room) (omega arith) e in
      let (whole, fits) = or_false _ _ lent in
      let (aligned, inside) = or_false (misaligned (row registers) (header_in words).address) _ place in
      record {
        whole = eqb-true _ _ (not-false _ whole);
        fits = eqb-true _ _ (not-false _ fits);
        command = known-command (header_in words) other;
        some = let n = eqb-false (header_in words).count 0 none in omega arith;
        headed = let n = eqb-false (length words) 0 empty in omega arith;
        sent = let n = ltb-false (1 + (header_in words).count) (length words) sent in omega arith;
        aligned = aligned;
        inside = inside;
      }

  -- and one that is so is not refused
  pub sound-passes : Sound words store room → first (burst_refusals words store room) ≡ 0
  unfolding burst_refusals
  sound-passes s =
      first-of_none (burst_refusals words store room) (
        rw (eq-eqb _ _ s.whole, eq-eqb _ _ s.fits),
        (
          ne_eqb (length words) 0 (omega (arith, s.headed)),
          (
            command-known (header_in words) s.command,
            (
              ne_eqb (header_in words).count 0 (omega (arith, s.some)),
              (le-ltb (1 + (header_in words).count) (length words) (omega (arith, s.sent)), (rw (s.aligned, s.inside), tt)),
            ),
          ),
        ),
      )

  -- All promised elements are within the space, so those that came are.
  pub sound-cells : Sound words store room
      → Cells (came words) (header_in words).address (cond (header_in words).increment 4 0)
  unfolding burst_steps
  sound-cells s = cells-fewer _ _ _ _ s.sent (steps-within _ _ _ _ _ (burst-plain _) s.inside)

-- A burst that is not refused, with its header and the way from cell to cell.
pub record Ready (words store room : List ℕ) (h : Header) (stride : ℕ) : Type 0 where
  pub passed : first (burst_refusals words store room) ≡ 0
  pub header : h ≡ header_in words
  pub apart : stride ≡ cond h.increment 4 0
  pub near : stride ≤ 4

pub readied : {words store room : List ℕ} {h : Header} {word stride : ℕ} → first (burst_refusals words store room) ≡ 0
    → h ≡ header_of word → word ≡ first_word words → (stride ≡ cond h.increment 4 0) × (stride ≤ 4) → Ready words store room h stride
readied p e f s = record { passed = p; header = e ∙ ap header_of f; apart = s.0; near = s.1 }

module _ (words store room : List ℕ) (h : Header) (stride : ℕ) (ready : Ready words store room h stride) where
  ready-sound : Sound words store room
  ready-sound = sound words store room ready.passed

  pub ready-headed : 1 ≤ length words
  ready-headed = ready-sound.headed

  ready-cells : Cells (came words) h.address stride
  ready-cells = rw (ready.apart, ready.header) (sound-cells words store room ready-sound)

  ready-within : cells_within (came words) h.address stride (length store) ≡ true
  ready-within =
      let n = came words in
      let whole : 65536 ≤ length store = omega (arith, ready-sound.whole) in
      all-within n h.address stride (length store) ready.near (within-store n h.address stride (length store) whole ready-cells)

  -- What it leaves, cell by cell.
  pub burst-reads : (h.command ≡ write_command → ⊥) → (after : List ℕ) → after ≡ cells_read store h.address stride room
      → run_burst words store room ≡ record { answer = Answer.accepted (came words ∷ []); store = store; room = after }
  unfolding run_burst burst_outcome burst_words burst_kind burst_steps is_write
  burst-reads k after e =
      let c = reads-cells (came words) h.address stride (bytes_of_words (drop 1 words)) store ready-sound.whole ready-cells in
      let some : length room ≡ 0 → ⊥ = λ z. omega (arith, ready-sound.headed, ready-sound.fits) in
      let r : cells_read store h.address stride room ≡ 0 ∷ cells (came words) h.address stride store =
      rw ready-sound.fits at (read_by store h.address stride room some true (rw ready-sound.fits ready-within)) in
      rw (ready.passed, ← ready.header, ne_eqb _ _ k, ← ready.apart, reads_keep read registers refl, c, e, r)

  pub burst-writes : h.command ≡ write_command → (after room' : List ℕ)
      → after ≡ cells_written words h.address stride store → room' ≡ replicate (length room) 0
      → run_burst words store room ≡ record { answer = Answer.accepted (came words ∷ []); store = after; room = room' }
  unfolding run_burst burst_outcome burst_words burst_kind burst_steps is_write
  burst-writes k after room' e f =
      let n : came words ≡ length (drop 1 words) = sym (length-drop 1 words) in
      let m : length room ≡ suc (length (drop 1 words)) = rw (← n) (omega (arith, ready-sound.headed, ready-sound.fits)) in
      let some : length words ≡ 0 → ⊥ = λ z. omega (arith, ready-sound.headed) in
      let w : cells_written words h.address stride store ≡ filled (drop 1 words) h.address stride store =
      written-by words h.address stride store some true ready-within in
      rw (ready.passed, ← ready.header, eq-eqb _ _ k, ← ready.apart, n, writes_fill, e, w, f, m)

pub burst-refused : (words store room : List ℕ) (n : ℕ) → n ≡ first (burst_refusals words store room) → (n ≡ 0 → ⊥)
    → run_burst words store room ≡ record { answer = Answer.refused n 0; store = store; room = room }
unfolding run_burst burst_outcome
burst-refused words store room zero e k = absurd (k refl)
burst-refused words store room (suc n) e k = rw (← e)

-- Laws of the outcome, by the number of the first rule that holds.

refused_changes_nothing : (k : ℕ) (words store room : List ℕ) (n place : ℕ)
    → (burst_outcome k words store room).answer ≡ Answer.refused n place
    → ((burst_outcome k words store room).store ≡ store) × ((burst_outcome k words store room).room ≡ room)
unfolding burst_outcome
refused_changes_nothing zero words store room n place e = let z : ◌≡◌ {A = ℕ} 0 1 = cc in absurd (omega arith)
refused_changes_nothing (suc k) words store room n place e = (refl, refl)

refused-number : (k : ℕ) (words store room : List ℕ) (n place : ℕ)
    → (burst_outcome k words store room).answer ≡ Answer.refused n place → (n ≡ k) × (1 ≤ k) × (place ≡ 0)
unfolding burst_outcome
refused-number zero words store room n place e = let z : ◌≡◌ {A = ℕ} 0 1 = cc in absurd (omega arith)
refused-number (suc k) words store room n place e = (cc, omega arith, cc)

store_length : (k : ℕ) (words store room : List ℕ) → length (burst_outcome k words store room).store ≡ length store
unfolding burst_outcome
store_length zero words store room = length-after (burst_steps (header_in words) (came words) words) store
store_length (suc k) words store room = refl

store-outside : (k : ℕ) (words store room : List ℕ) → (k ≡ 0 → Sound words store room) → (i : ℕ) → 65536 ≤ i
    → get_or (burst_outcome k words store room).store i 0 ≡ get_or store i 0
unfolding burst_outcome burst_steps is_write
store-outside zero words store room s i h = go (burst_kind (header_in words))
  where
    a : ℕ
    a = (header_in words).address

    d : ℕ
    d = cond (header_in words).increment 4 0

    n : came words ≡ length (drop 1 words)
    n = sym (length-drop 1 words)

    go : (k : Kind) → get_or (store_after (elements k registers (came words) a d (bytes_of_words (drop 1 words))) store) i 0 ≡ get_or store i 0
    go read = rw (reads_keep read registers refl)
    go write = rw (n, writes_fill) (filled-outside (drop 1 words) a d store i (rw n at (sound-cells words store room (s refl))) h)
    go infoRead = rw (reads_keep infoRead registers refl)
store-outside (suc k) words store room s i h = refl

length-words_of_bytes : (n : ℕ) (bs : List ℕ) → length (words_of_bytes n bs) ≡ n
unfolding words_of_bytes
length-words_of_bytes zero bs = refl
length-words_of_bytes (suc n) bs = ap suc (length-words_of_bytes n (drop 4 bs))

length-burst_words : (k : Kind) (n : ℕ) (values : List ℕ) → length (burst_words k n values) ≡ suc n
unfolding burst_words
length-burst_words k n values = ap suc (go (is_write k))
  where
    go : (b : Bool) → length (cond b (replicate n 0) (words_of_bytes n values)) ≡ n
    go true = length-replicate n 0
    go false = length-words_of_bytes n values

room-length : (k : ℕ) (words store room : List ℕ) → (k ≡ 0 → Sound words store room)
    → (burst_outcome k words store room).answer ≡ Answer.accepted (came words ∷ [])
    → length (burst_outcome k words store room).room ≡ length words
unfolding burst_outcome
room-length zero words store room s e =
    length-burst_words (burst_kind (header_in words)) (came words) (values_read (burst_steps (header_in words) (came words) words) store)
    ∙ omega (arith, (s refl).headed)
room-length (suc k) words store room s e = let z : ◌≡◌ {A = ℕ} 0 1 = cc in absurd (omega arith)

-- the answer's words, by kind
zeros_or_cells : (k : ℕ) (words store room : List ℕ) → (k ≡ 0 → Sound words store room)
    → (burst_outcome k words store room).answer ≡ Answer.accepted (came words ∷ [])
    → ((burst_outcome k words store room).room ≡ 0 ∷ drop 1 (burst_outcome k words store room).room)
    × ((header_in words).command ≡ write_command → (burst_outcome k words store room).room ≡ replicate (length words) 0)
unfolding burst_outcome burst_words burst_kind is_write
zeros_or_cells zero words store room s e =
    (refl, λ w. let n : suc (came words) ≡ length words = omega (arith, (s refl).headed) in rw (eq-eqb _ _ w) (ap (λ (m : ℕ). replicate m 0) n))
zeros_or_cells (suc k) words store room s e = let z : ◌≡◌ {A = ℕ} 0 1 = cc in absurd (omega arith)

-- A burst is accepted exactly when no rule holds.
accepted-passed : (k : ℕ) (words store room : List ℕ) → (burst_outcome k words store room).answer ≡ Answer.accepted (came words ∷ []) → k ≡ 0
unfolding burst_outcome
accepted-passed zero words store room e = refl
accepted-passed (suc k) words store room e = let z : ◌≡◌ {A = ℕ} 0 1 = cc in absurd (omega arith)

-- A header promises at most 127 elements, and no more than it promises are done.
few-came : (k : ℕ) (words store room : List ℕ) → (k ≡ 0 → Sound words store room) → (n : ℕ)
    → (burst_outcome k words store room).answer ≡ Answer.accepted (n ∷ []) → n ≤ most_in_burst
unfolding burst_outcome header_of
few-came zero words store room s n e = let q : came words ≡ n = cc in omega (arith, (s refl).sent)
few-came (suc k) words store room s n e = let z : ◌≡◌ {A = ℕ} 0 1 = cc in absurd (omega arith)

-- P holds of each rule's number
abbrev AllNumbers : (ℕ → Type 0) → List TableRow → Type 0
AllNumbers P [] = Unit
AllNumbers P (r ∷ rs) = P r.number × AllNumbers P rs

-- so it holds of the first's
first-among : (P : ℕ → Type 0) {n : ℕ} {rs : List TableRow} → FirstHolds n rs → AllNumbers P rs → P n
first-among P (FirstHolds.here e t) a = rw e at a.0
first-among P (FirstHolds.later f more) a = first-among P more a.1

-- n is the table's number for this burst
pub record BurstRefused (words store room : List ℕ) (n place : ℕ) : Type 0 where
  pub at-start : place ≡ 0
  -- a rule of the table has it, its condition holds, and that of none before it does
  pub holds : FirstHolds n (burst_refusals words store room)
  -- no rule whose condition holds has a lower number
  pub lowest : Lowest n (burst_refusals words store room)
  pub in_table : (n ≡ 1) ⊎ ((31 ≤ n) × (n ≤ 35))

module _ (words store room : List ℕ) where
  -- A refused burst changes nothing lent.
  pub burst-refusal_changes_nothing : (n place : ℕ) → (run_burst words store room).answer ≡ Answer.refused n place
      → ((run_burst words store room).store ≡ store) × ((run_burst words store room).room ≡ room)
  unfolding run_burst
  burst-refusal_changes_nothing = refused_changes_nothing (first (burst_refusals words store room)) words store room

  -- Its number is the table's: that of a rule that holds, and no lower one does. Its place is 0.
  pub burst-refused_in_table : (n place : ℕ) → (run_burst words store room).answer ≡ Answer.refused n place
      → BurstRefused words store room n place
  unfolding run_burst burst_refusals
  burst-refused_in_table n place e =
      let (same, some, zero-place) = refused-number (first (burst_refusals words store room)) words store room n place e in
      let holds = first_holds n (burst_refusals words store room) (sym same) (omega arith) in
      record {
        at-start = zero-place;
        holds = holds;
        lowest = first-lowest 0 35 holds (omega arith);
        in_table = first-among Listed holds all;
      }
    where
      Listed : ℕ → Type 0
      Listed k = (k ≡ 1) ⊎ ((31 ≤ k) × (k ≤ 35))

      all : AllNumbers Listed (burst_refusals words store room)
      all = (
        inl refl,
        (inr (omega arith), (inr (omega arith), (inr (omega arith), (inr (omega arith), (inr (omega arith), tt))))),
      )

  -- The answer to an accepted burst has as many words as were sent.
  pub burst-answer_length : (run_burst words store room).answer ≡ Answer.accepted (came words ∷ [])
      → length (run_burst words store room).room ≡ length words
  unfolding run_burst
  burst-answer_length =
      room-length (first (burst_refusals words store room)) words store room (sound words store room)

  -- The store keeps its length.
  pub burst-store_length : length (run_burst words store room).store ≡ length store
  unfolding run_burst
  burst-store_length = store_length (first (burst_refusals words store room)) words store room

  -- A burst touches space 0 alone: no byte of another space, so not the unlock cell either.
  pub burst-outside : (i : ℕ) → 65536 ≤ i → get_or (run_burst words store room).store i 0 ≡ get_or store i 0
  unfolding run_burst
  burst-outside = store-outside (first (burst_refusals words store room)) words store room (sound words store room)

  pub accepted-sound : (run_burst words store room).answer ≡ Answer.accepted (came words ∷ []) → Sound words store room
  unfolding run_burst
  accepted-sound e = sound words store room (accepted-passed (first (burst_refusals words store room)) words store room e)

  -- The answer's first word is 0, and on a write all are.
  pub burst-answer : (run_burst words store room).answer ≡ Answer.accepted (came words ∷ [])
      → ((run_burst words store room).room ≡ 0 ∷ drop 1 (run_burst words store room).room)
      × ((header_in words).command ≡ write_command → (run_burst words store room).room ≡ replicate (length words) 0)
  unfolding run_burst
  burst-answer = zeros_or_cells (first (burst_refusals words store room)) words store room (sound words store room)

  -- The number answered is that of the elements done, and at most 127.
  pub burst-elements : length (burst_steps (header_in words) (came words) words) ≡ came words
  unfolding burst_steps
  burst-elements = length-elements _ _ _ _ _ _

  pub burst-at_most : (n : ℕ) → (run_burst words store room).answer ≡ Answer.accepted (n ∷ []) → n ≤ most_in_burst
  unfolding run_burst
  burst-at_most = few-came (first (burst_refusals words store room)) words store room (sound words store room)

  -- as the code answers and leaves it
  pub burst-bounded : (a : Result ℕ Refusal) (store' room'' : List ℕ) (b : Answer) → verdict_listed a ≡ b
      → run_burst words store room ≡ record { answer = b; store = store'; room = room'' }
      → (burst_left a store' room'' ≡ run_burst words store room)
      × ((n : ℕ) → verdict_listed a ≡ Answer.accepted (n ∷ []) → n ≤ most_in_burst)
  unfolding burst_left
  burst-bounded a store' room'' b e h =
      (rw (h, e) refl, λ n q. burst-at_most n (ap (λ (x : Burst). x.answer) h ∙ sym e ∙ q))
