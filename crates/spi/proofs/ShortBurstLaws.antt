-- Laws of bursts with fewer words than promised: such a burst is the first part of the whole one, and the words left are, from
-- the next address on (without increment the same), a burst of their own.
use Prim.Native.Nat.{ℕ, zero, suc, ◌+◌, ◌*◌, ◌%◌, ◌≤◌, ◌<◌}
use mathlib.Core.Path.{◌≡◌, refl, ap, sym, ◌∙◌}
use mathlib.Core.Logic.{◌≢◌}
use mathlib.Core.List.{List, [], ◌∷◌, ◌++◌}
use mathlib.Core.Bool.{Bool, true, false, not, cond, and-false}
use native.Mathlib.Omega.{arith}
use native.Mathlib.Nat.{suc-mul, zero-mul, zero-add, suc-add}
use lib.Dec.{eqb}
use lib.ListN.{length, take, drop, length-append, length-drop, replicate-append-replicate}
use lib.Seq.{take_at, drop_at, take-append-le, drop-append-le}
use borrow.Author.Tests.{ltb-false, le-ltb, eqb-true, ne_eqb, not-false}
use Rattle.lbp16.specs.Answer.{Answer}
use Rattle.lbp16.specs.Space.{Space, registers, row, store_bytes}
use Rattle.packet.specs.Bytes.{number, bytes_of}
use Rattle.packet.specs.Step.{Kind, read, write, infoRead, Step, is_info, is_write, carried, answered, store_after, values_read}
use Rattle.packet.specs.Rules.{any_step, misaligned, past_end}
use Rattle.packet.specs.Command.{payload, elements}
use Rattle.packet.proofs.ByteLaws.{length-bytes}
use Rattle.packet.proofs.StoreLaws.{length-after, length-values, store-after_append, values-read_append}
use Rattle.packet.proofs.CommandLaws.{reply-of_elements}
use Rattle.packet.proofs.InfoLaws.{plain-whole}
use Rattle.spi.specs.declared.Header.{Header}
use Rattle.spi.specs.Spi.{write_command, header_of, header_word, first_word, bytes_of_words, words_of_bytes, burst_kind, burst_steps, came, burst_words}
use Rattle.spi.specs.Spi.{Burst, burst_refusals, burst_outcome, run_burst}
use Rattle.spi.proofs.SpiLaws.{burst-plain, past_quick, Sound, sound-passes, accepted-sound, header-of_word}

-- A read takes no bytes.
reads-take_none : (s : Space) (n a d : ℕ) (bs cs : List ℕ) → elements read s n a d bs ≡ elements read s n a d cs
unfolding elements payload carried
reads-take_none s zero a d bs cs = refl
reads-take_none s (suc n) a d bs cs =
    ap (λ (t : List Step). record { kind = read; space = s; address = a; bytes = [] } ∷ t) (reads-take_none s n (a + d) d bs cs)

one_more_lem : (a d n : ℕ) → a + d + n * d ≡ a + suc n * d
one_more_lem a d n = rw suc-mul (omega arith)

words-split : (k : Kind) → is_info k ≡ false → (xs ys : List ℕ) (a d : ℕ)
    → elements k registers (length (xs ++ ys)) a d (bytes_of_words (xs ++ ys))
    ≡ elements k registers (length xs) a d (bytes_of_words xs)
    ++ elements k registers (length ys) (a + length xs * d) d (bytes_of_words ys)
unfolding elements payload carried is_info bytes_of_words row
words-split k p [] ys a d = rw zero-mul (ap (λ (b : ℕ). elements k registers (length ys) b d (bytes_of_words ys)) (omega arith))
words-split read p (x ∷ xs) ys a d =
    ap (λ (t : List Step). record { kind = read; space = registers; address = a; bytes = [] } ∷ t)
    (reads-take_none registers (length (xs ++ ys)) (a + d) d _ (bytes_of_words (xs ++ ys))
    ∙ words-split read p xs ys (a + d) d
    ∙ rw (one_more_lem a d (length xs), reads-take_none registers (length xs) (a + d) d (bytes_of 4 x ++ bytes_of_words xs) (bytes_of_words xs)))
words-split write p (x ∷ xs) ys a d =
    let four : length (bytes_of 4 x) ≡ 4 = length-bytes 4 x in
    rw (
      take_at (bytes_of 4 x) (bytes_of_words (xs ++ ys)) 4 four,
      drop_at (bytes_of 4 x) (bytes_of_words (xs ++ ys)) 4 four,
      take_at (bytes_of 4 x) (bytes_of_words xs) 4 four,
      drop_at (bytes_of 4 x) (bytes_of_words xs) 4 four,
    )
    (ap (λ (t : List Step). record { kind = write; space = registers; address = a; bytes = bytes_of 4 x } ∷ t)
    (words-split write p xs ys (a + d) d ∙ rw (one_more_lem a d (length xs))))
words-split infoRead p (x ∷ xs) ys a d = let z : ◌≡◌ {A = ℕ} 0 1 = cc in absurd (omega arith)

-- the header of m elements that follow n of h's
abbrev pub rest_of : Header → ℕ → ℕ → Header
rest_of h n m = record { address = h.address + n * cond h.increment 4 0; command = h.command; increment = h.increment; count = m }

module _ (h : Header) (w w' : ℕ) (xs ys : List ℕ) where
  pub steps-split : burst_steps h (length (xs ++ ys)) (w ∷ (xs ++ ys))
      ≡ burst_steps h (length xs) (w ∷ xs) ++ burst_steps (rest_of h (length xs) (length ys)) (length ys) (w' ∷ ys)
  unfolding burst_steps burst_kind
  steps-split = words-split (burst_kind h) (burst-plain h) xs ys h.address (cond h.increment 4 0)

  -- So the second part, on the store that the first leaves, leaves the store and reads the values of the whole.
  pub store_split : (store : List ℕ)
      → store_after (burst_steps h (length (xs ++ ys)) (w ∷ (xs ++ ys))) store
      ≡ store_after (burst_steps (rest_of h (length xs) (length ys)) (length ys) (w' ∷ ys))
      (store_after (burst_steps h (length xs) (w ∷ xs)) store)
  store_split store = rw steps-split (store-after_append _ _ store)

  pub values-split : (store : List ℕ)
      → values_read (burst_steps h (length (xs ++ ys)) (w ∷ (xs ++ ys))) store
      ≡ values_read (burst_steps h (length xs) (w ∷ xs)) store
      ++ values_read (burst_steps (rest_of h (length xs) (length ys)) (length ys) (w' ∷ ys))
      (store_after (burst_steps h (length xs) (w ∷ xs)) store)
  values-split store = rw steps-split (values-read_append _ _ store)

-- Where a burst's elements end.
end-within : (h : Header) (n : ℕ) (words : List ℕ) → 1 ≤ n → any_step past_end (burst_steps h n words) ≡ false
    → h.address + cond h.increment (n * 4) 4 ≤ 65536
end-within h n words some e = ltb-false _ _ (rw (past_quick h n words, ne_eqb n 0 (omega arith)) at e)

within_end : (h : Header) (n : ℕ) (words : List ℕ) → h.address + cond h.increment (n * 4) 4 ≤ 65536
    → any_step past_end (burst_steps h n words) ≡ false
within_end h n words l =
    rw (past_quick h n words, le-ltb 65536 (h.address + cond h.increment (n * 4) 4) l) (and-false (not (eqb n 0)))

-- of c elements from address a on, the first n, and m after them
first-end : (i : Bool) (a n c : ℕ) → n ≤ c → a + cond i (c * 4) 4 ≤ 65536 → a + cond i (n * 4) 4 ≤ 65536
first-end true a n c h l = omega arith
first-end false a n c h l = l

next-end : (i : Bool) (a n m c : ℕ) → n + m ≤ c → a + cond i (c * 4) 4 ≤ 65536
    → a + n * cond i 4 0 + cond i (m * 4) 4 ≤ 65536
next-end true a n m c h l = omega arith
next-end false a n m c h l = omega arith

next-below : (i : Bool) (b m : ℕ) → 1 ≤ m → b + cond i (m * 4) 4 ≤ 65536 → b < 65536
next-below true b m h l = omega arith
next-below false b m h l = omega arith

next-aligned : (i : Bool) (a n : ℕ) → a % 4 ≡ 0 → (a + n * cond i 4 0) % 4 ≡ 0
next-aligned true a n h = omega arith
next-aligned false a n h = omega arith

words-of_bytes_split : (n m : ℕ) (vs us : List ℕ) → length vs ≡ n * 4
    → words_of_bytes (n + m) (vs ++ us) ≡ words_of_bytes n vs ++ words_of_bytes m us
unfolding words_of_bytes
words-of_bytes_split zero m [] us l = rw zero-add refl
words-of_bytes_split zero m (x ∷ vs) us l = absurd (omega arith)
words-of_bytes_split (suc n) m vs us l =
    let four : 4 ≤ length vs = omega arith in
    let rest : length (drop 4 vs) ≡ n * 4 = rw length-drop (omega arith) in
    rw (suc-add, take-append-le 4 vs us four, drop-append-le 4 vs us four)
    (ap (λ (t : List ℕ). number (take 4 vs) ∷ t) (words-of_bytes_split n m (drop 4 vs) us rest))

answers-split : (k : Kind) → is_info k ≡ false → (n m : ℕ) (vs us : List ℕ) → length vs ≡ n * answered k registers
    → burst_words k (n + m) (vs ++ us) ≡ burst_words k n vs ++ drop 1 (burst_words k m us)
unfolding burst_words is_write is_info answered row
answers-split read p n m vs us l = ap (λ (t : List ℕ). 0 ∷ t) (words-of_bytes_split n m vs us l)
answers-split write p n m vs us l = ap (λ (t : List ℕ). 0 ∷ t) (sym (replicate-append-replicate {A = ℕ} n m 0))
answers-split infoRead p n m vs us l = let z : ◌≡◌ {A = ℕ} 0 1 = cc in absurd (omega arith)

-- the two parts of a burst do what the whole does
pub record InTwo (n m : ℕ) (all first second : Burst) : Type 0 where
  pub first-accepted : first.answer ≡ Answer.accepted (n ∷ [])
  pub second-accepted : second.answer ≡ Answer.accepted (m ∷ [])
  pub store : second.store ≡ all.store
  pub answer : all.room ≡ first.room ++ drop 1 second.room

-- the header of the words left
abbrev pub next_word : ℕ → List ℕ → List ℕ → ℕ
next_word w xs ys = header_word (rest_of (header_of w) (length xs) (length ys))

runs_as : (words store room : List ℕ) → Sound words store room
    → run_burst words store room ≡ burst_outcome 0 words store room
unfolding run_burst
runs_as words store room s = rw (sound-passes words store room s)

-- The header alone is a burst of no elements: no cell changes, and the answer is the one word 0.
pub header-alone : (w : ℕ) (store room : List ℕ) → (run_burst (w ∷ []) store room).answer ≡ Answer.accepted (0 ∷ [])
    → run_burst (w ∷ []) store room ≡ record { answer = Answer.accepted (0 ∷ []); store = store; room = 0 ∷ [] }
unfolding burst_outcome burst_steps elements store_after values_read burst_words is_write words_of_bytes
header-alone w store room e = runs_as (w ∷ []) store room (accepted-sound (w ∷ []) store room e) ∙ go (burst_kind (header_of (first_word (w ∷ []))))
  where
    go : (k : Kind)
        → ◌≡◌ {A = Burst} (record { answer = Answer.accepted (0 ∷ []); store = store; room = burst_words k 0 [] })
        (record { answer = Answer.accepted (0 ∷ []); store = store; room = 0 ∷ [] })
    go read = refl
    go write = refl
    go infoRead = refl

-- On a read the contents of the words sent are ignored.
module _ (w : ℕ) (xs ys store room : List ℕ) (l : length xs ≡ length ys) (reads : (header_of w).command ≢ write_command) where
  same-steps : (n : ℕ) → burst_steps (header_of w) n (w ∷ xs) ≡ burst_steps (header_of w) n (w ∷ ys)
  unfolding burst_steps burst_kind
  same-steps n = rw (ne_eqb _ _ reads) (reads-take_none registers n _ _ (bytes_of_words xs) (bytes_of_words ys))

  same_outcome : (k : ℕ) → burst_outcome k (w ∷ xs) store room ≡ burst_outcome k (w ∷ ys) store room
  unfolding burst_outcome first_word
  same_outcome zero = rw (l, same-steps (came (w ∷ ys)))
  same_outcome (suc k) = refl

  pub reads_ignore_words : run_burst (w ∷ xs) store room ≡ run_burst (w ∷ ys) store room
  unfolding run_burst burst_refusals first_word
  reads_ignore_words = rw (same_outcome, l, same-steps (header_of w).count)

length-outcome : (words store room : List ℕ) → length (burst_outcome 0 words store room).store ≡ length store
unfolding burst_outcome
length-outcome words store room = length-after _ store

came_cons : (w : ℕ) (ws : List ℕ) → came (w ∷ ws) ≡ length ws
came_cons w ws = omega arith

module _ (w : ℕ) (xs ys store room : List ℕ) (s : Sound (w ∷ (xs ++ ys)) store room) where
  enough : length xs + length ys ≤ (header_of w).count
  unfolding first_word
  enough = let l = rw length-append at s.sent in omega (arith, l)

  -- all promised elements end within the space
  bound : (header_of w).address + cond (header_of w).increment ((header_of w).count * 4) 4 ≤ 65536
  unfolding first_word
  bound = end-within (header_of w) (header_of w).count (w ∷ (xs ++ ys)) s.some s.inside

  bound-first : (header_of w).address + cond (header_of w).increment (length xs * 4) 4 ≤ 65536
  bound-first = first-end (header_of w).increment _ _ _ (let l : length xs ≤ (header_of w).count = omega (arith, enough) in l) bound

  bound-next : (header_of w).address + length xs * cond (header_of w).increment 4 0 + cond (header_of w).increment (length ys * 4) 4
      ≤ 65536
  bound-next = next-end (header_of w).increment _ (length xs) _ _ enough bound

  -- The words that came are a burst that is not refused.
  first-sound : (room₁ : List ℕ) → length room₁ ≡ suc (length xs) → Sound (w ∷ xs) store room₁
  unfolding first_word
  first-sound room₁ f =
      record {
        whole = s.whole;
        fits = f;
        command = s.command;
        some = s.some;
        headed = omega arith;
        sent = omega (arith, enough);
        aligned = s.aligned;
        inside = within_end (header_of w) (header_of w).count (w ∷ xs) bound;
      }

  -- The words left have a header of their own,
  next-header : 1 ≤ length ys → header_of (next_word w xs ys) ≡ rest_of (header_of w) (length xs) (length ys)
  unfolding first_word header_of
  next-header left =
      header-of_word
      _
      (record { address = next-below (header_of w).increment _ _ left bound-next; command = omega arith; count = omega (arith, enough) })

  -- and are one too.
  second-sound : (store₁ room₂ : List ℕ) → length store₁ ≡ store_bytes → 1 ≤ length ys → length room₂ ≡ suc (length ys)
      → Sound (next_word w xs ys ∷ ys) store₁ room₂
  unfolding first_word misaligned row
  second-sound store₁ room₂ l left f =
      let r = rest_of (header_of w) (length xs) (length ys) in
      let same = next-header left in
      let whole_cells : (header_of w).address % 4 ≡ 0 = eqb-true _ _ (not-false _ s.aligned) in
      record {
        whole = l;
        fits = f;
        command = rw same s.command;
        some = rw same left;
        headed = omega arith;
        sent = rw same (omega arith);
        aligned = rw same (rw (next-aligned (header_of w).increment _ _ whole_cells) refl);
        inside = rw same (within_end r (length ys) _ bound-next);
      }

  values_length : length (values_read (burst_steps (header_of w) (length xs) (w ∷ xs)) store)
      ≡ length xs * answered (burst_kind (header_of w)) registers
  unfolding burst_steps
  values_length =
      length-values
      _
      store
      s.whole
      (plain-whole _ _ _ _ _ _ (burst-plain (header_of w)))
      (within_end (header_of w) (length xs) (w ∷ xs) bound-first)
      ∙ reply-of_elements _ _ _ _ _ _

  outcomes_split : (room₁ room₂ : List ℕ) → 1 ≤ length ys
      → InTwo (length xs) (length ys)
      (burst_outcome 0 (w ∷ (xs ++ ys)) store room)
      (burst_outcome 0 (w ∷ xs) store room₁)
      (burst_outcome 0 (next_word w xs ys ∷ ys) (burst_outcome 0 (w ∷ xs) store room₁).store room₂)
  unfolding burst_outcome first_word burst_kind
  outcomes_split room₁ room₂ left =
      let v = next_word w xs ys in
      let same = next-header left in
      record {
        first-accepted = rw (came_cons w xs) refl;
        second-accepted = rw (came_cons v ys) refl;
        store =
            rw (came_cons w (xs ++ ys), came_cons w xs, came_cons v ys, same)
            (sym (store_split (header_of w) w v xs ys store));
        answer =
            rw (came_cons w (xs ++ ys), came_cons w xs, came_cons v ys, same, values-split (header_of w) w v xs ys store, length-append)
            (answers-split (burst_kind (header_of w)) (burst-plain (header_of w)) (length xs) (length ys) _ _ values_length);
      }

-- A burst that is accepted may be sent in two: its header with the first words, and then the rest from the
-- next address under a header of their own.
pub in_two : (w : ℕ) (xs ys store room room₁ room₂ : List ℕ)
    → (run_burst (w ∷ (xs ++ ys)) store room).answer ≡ Answer.accepted (came (w ∷ (xs ++ ys)) ∷ []) → 1 ≤ length ys
    → length room₁ ≡ suc (length xs) → length room₂ ≡ suc (length ys)
    → InTwo (length xs) (length ys)
    (run_burst (w ∷ (xs ++ ys)) store room)
    (run_burst (w ∷ xs) store room₁)
    (run_burst (next_word w xs ys ∷ ys) (run_burst (w ∷ xs) store room₁).store room₂)
in_two w xs ys store room room₁ room₂ e left f₁ f₂ =
    let s = accepted-sound _ store room e in
    let store₁ = (burst_outcome 0 (w ∷ xs) store room₁).store in
    let first = runs_as (w ∷ xs) store room₁ (first-sound w xs ys store room s room₁ f₁) in
    let l = length-outcome (w ∷ xs) store room₁ ∙ s.whole in
    let second = runs_as (next_word w xs ys ∷ ys) store₁ room₂ (second-sound w xs ys store room s store₁ room₂ l left f₂) in
    rw (runs_as (w ∷ (xs ++ ys)) store room s, first, second) (outcomes_split w xs ys store room s room₁ room₂ left)
