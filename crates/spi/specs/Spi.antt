-- One SPI burst on space 0 of the store. A header, high bit first: 16 bits of address, 4 of command, increment, 7 of
-- count, 4 unused.
use Rattle.std.specs.Prelude.{ℕ, zero, suc, ◌+◌, ◌-◌, ◌*◌, ◌/◌, ◌%◌, List, [], ◌∷◌, ◌++◌, Bool, not, ◌||◌, ◌&&◌, cond, length, take, drop, replicate, eqb, ltb, Result, Ok, Err}
use Rattle.lbp16.specs.Answer.{Answer, refusal}
use Rattle.lbp16.specs.Space.{registers, row, store_bytes}
use Rattle.lbp16.specs.Word.{bit}
use Rattle.packet.specs.Bytes.{number, bytes_of}
use Rattle.packet.specs.Step.{Kind, Step, is_write, store_after, values_read}
use Rattle.packet.specs.Rules.{Rule, first, misaligned, past_end, any_step}
use Rattle.packet.specs.Command.{elements, pick_kind}
use Rattle.packet.specs.Verdict.{verdict_listed}
use Rattle.lbp16.specs.declared.Refusal.{Refusal}
use Rattle.spi.specs.declared.Header.{Header}

abbrev pub read_command : ℕ
read_command = 0xA

abbrev pub write_command : ℕ
write_command = 0xB

unfoldable pub header_of : ℕ → Header
header_of w =
    record {
      address = w / 65536;
      command = w / 4096 % 16;
      increment = eqb (w / 2048 % 2) 1;
      count = w / 16 % 128;
    }

-- Unused bits are written as 0.
unfoldable pub header_word : Header → ℕ
header_word h = h.address * 65536 + h.command * 4096 + bit h.increment * 2048 + h.count * 16

-- refusal 32
unfoldable pub other_command : Header → Bool
other_command h = not (eqb h.command read_command) && not (eqb h.command write_command)

abbrev pub answer_of : ℕ → List ℕ → Answer
answer_of zero values = Answer.accepted values
answer_of (suc n) values = Answer.refused (suc n) 0

unfoldable pub header_written : Header → Answer
header_written h =
    answer_of
    (first
    (record { number = 32; holds = other_command h }
    ∷ record { number = 33; holds = eqb h.count 0 || ltb 127 h.count }
    ∷ []))
    (header_word h ∷ [])

unfoldable pub header_listed : Result ℕ Refusal → Answer
header_listed (Ok w) = Answer.accepted (w ∷ [])
header_listed (Err r) = refusal r

-- the first word, 0 where there is none
unfoldable pub first_word : List ℕ → ℕ
first_word [] = 0
first_word (w ∷ ws) = w

-- a cell's four bytes for each word, low byte first, and the words of such bytes
unfoldable pub bytes_of_words : List ℕ → List ℕ
bytes_of_words [] = []
bytes_of_words (w ∷ ws) = bytes_of 4 w ++ bytes_of_words ws

unfoldable pub words_of_bytes : ℕ → List ℕ → List ℕ
words_of_bytes zero bs = []
words_of_bytes (suc n) bs = number (take 4 bs) ∷ words_of_bytes n (drop 4 bs)

unfoldable pub burst_kind : Header → Kind
burst_kind h = pick_kind (eqb h.command write_command)

-- n elements from the header's address on; a write's are the words after the header
unfoldable pub burst_steps : Header → ℕ → List ℕ → List Step
burst_steps h n words =
    elements (burst_kind h) registers n h.address (cond h.increment 4 0) (bytes_of_words (drop 1 words))

-- how many elements came: the header promises its count, and fewer words may follow it
abbrev pub came : List ℕ → ℕ
came words = length words - 1

-- 35 looks at all promised elements
unfoldable pub burst_refusals : List ℕ → List ℕ → List ℕ → List Rule
burst_refusals words store room =
    let h = header_of (first_word words) in
    record { number = 1; holds = not (eqb (length store) store_bytes) || not (eqb (length room) (length words)) }
    ∷ record { number = 31; holds = eqb (length words) 0 }
    ∷ record { number = 32; holds = other_command h }
    ∷ record { number = 33; holds = eqb h.count 0 }
    ∷ record { number = 34; holds = ltb (1 + h.count) (length words) }
    ∷ record { number = 35; holds = misaligned (row registers) h.address || any_step past_end (burst_steps h h.count words) }
    ∷ []

pub record Burst : Type 0 where
  pub answer : Answer
  pub store : List ℕ
  pub room : List ℕ

-- the answer's words, one for each sent: first 0; then on a read the cells, on a write 0
unfoldable pub burst_words : Kind → ℕ → List ℕ → List ℕ
burst_words k n values = 0 ∷ cond (is_write k) (replicate n 0) (words_of_bytes n values)

-- An accepted burst does the elements that came, and answers how many.
unfoldable pub burst_outcome : ℕ → List ℕ → List ℕ → List ℕ → Burst
burst_outcome zero words store room =
    let h = header_of (first_word words) in
    let steps = burst_steps h (came words) words in
    record {
      answer = Answer.accepted (came words ∷ []);
      store = store_after steps store;
      room = burst_words (burst_kind h) (came words) (values_read steps store);
    }
burst_outcome (suc n) words store room = record { answer = Answer.refused (suc n) 0; store = store; room = room }

unfoldable pub run_burst : List ℕ → List ℕ → List ℕ → Burst
run_burst words store room = burst_outcome (first (burst_refusals words store room)) words store room

-- what a burst of the code answers and leaves
unfoldable pub burst_left : Result ℕ Refusal → List ℕ → List ℕ → Burst
burst_left a store room = record { answer = verdict_listed a; store = store; room = room }

-- the most elements that a burst can move
abbrev pub most_in_burst : ℕ
most_in_burst = 127
