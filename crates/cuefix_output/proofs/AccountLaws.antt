-- Laws of the playable list and of the account as the program leaves and writes them.
use Prim.Native.Nat.{ℕ, ◌*◌, ◌^◌, ◌≤◌, ◌<◌}
use mathlib.Core.Path.{◌≡◌, refl, sym, ap, ◌∙◌}
use mathlib.Core.List.{List, [], ◌++◌}
use mathlib.Core.Bool.{Bool, true, false, cond}
use native.Mathlib.Omega.{arith}
use native.Mathlib.Nat.{zero-add}
use lib.ListN.{length, take, drop}
use lib.Seq.{sets, sets-eq, take_at}
use lib.Dec.{ltb}
use borrow.Author.Tests.{lt-ltb, le-ltb, ltb-false}
use Rattle.text.specs.Number.{ascii}
use Rattle.text.specs.Line.{too_long_line}
use Rattle.text.proofs.LineLaws.{pair-length}
use Rattle.salvage.specs.Salvage.{salvaged, scan, counted, output, logged, entries}
use Rattle.salvage.specs.declared.scan.Counts.{Counts}
use Rattle.salvage.proofs.LoopLaws.{log-length}
use Rattle.salvage.proofs.SalvageLaws.{both-fit, whole}
use Rattle.salvage.proofs.EntryLaws.{few-entries, output-length}
use Rattle.cuefix_output.specs.Account.{leaves, saved, answered, written, noted, told_text, told_note, account_of, account_from}
use Rattle.cuefix_output.specs.Account.{most_bytes, log_numbers, most_read, usage_line, skipped_line, kept_line}
use Rattle.cuefix_output.specs.Inside.{Taken, Saved}
use Rattle.cuefix_output.specs.declared.Request.{Request}
use Rattle.cuefix_output.specs.declared.Told.{Told}

-- a text at a room's front
front-is : (text room : List ℕ) → length text ≤ length room → sets room 0 text ≡ text ++ drop (length text) room
front-is text room h = sets-eq text room 0 (omega arith) ∙ rw zero-add refl

front_reads : (text room : List ℕ) → length text ≤ length room → take (length text) (sets room 0 text) ≡ text
front_reads text room h = rw (front-is text room h) (take_at text _ (length text) refl)

log-numbers : (list : List ℕ) → length (logged list) ≡ 2 * entries list
unfolding logged entries
log-numbers list = log-length 0 (scan list)

-- what a list that is taken needs of its rooms
module _ (list : List ℕ) (few : length list ≤ most_bytes) where
  output-few : length (output list) ≤ most_bytes
  output-few = omega (arith, output-length list)

  log-few : length (logged list) ≤ log_numbers
  log-few = omega (arith, log-numbers list, few-entries list)

module _ (list room log : List ℕ) (t : Taken list room log) where
  both : salvaged list room log ≡ whole list room log
  both = both-fit list room log (omega (arith, t.few, t.wide)) (omega (arith, few-entries list, t.few, t.deep))

  -- the rooms that a salvage leaves
  pub list-saved : (room₁ log₁ : List ℕ) (c : Counts) → c ≡ counted (scan list) → room₁ ≡ (salvaged list room log).room
      → log₁ ≡ (salvaged list room log).log → Saved list room log room₁ log₁ c
  list-saved room₁ log₁ c e r l =
      record {
        counts = e;
        room-is =
            r ∙ rw both (sym (front-is (output list) room (omega (arith, output-few list t.few, t.wide))));
        log_is =
            l ∙ rw both (sym (front-is (logged list) log (omega (arith, log-few list t.few, t.deep))));
      }

leaves_alike : {t u : Told} {room room₁ log log₁ : List ℕ} → t ≡ u → room ≡ room₁ → log ≡ log₁
    → leaves t room log ≡ leaves u room₁ log₁
leaves_alike e f g = λ i. record { told = e i; room = f i; log = g i }

pub list-asked : (w : Request) → (w ≡ Request.Usage → ⊥) → (w ≡ Request.Log → ⊥) → w ≡ Request.List
list-asked Request.Usage e f = absurd (e refl)
list-asked Request.List e f = refl
list-asked Request.Log e f = absurd (f refl)

-- a list that is too long, whatever is done with it
pub answered-too_long : (w : Request) (list room log : List ℕ) → (w ≡ Request.Usage → ⊥) → most_bytes < length list
    → leaves Told.TooLong room log ≡ answered w list room log
unfolding answered
answered-too_long Request.Usage list room log e h = absurd (e refl)
answered-too_long Request.List list room log e h = rw (lt-ltb most_bytes (length list) h) refl
answered-too_long Request.Log list room log e h = rw (lt-ltb most_bytes (length list) h) refl

-- what is asked for decides
module _ (w : Request) (list room log : List ℕ) where
  pub usage_answered : w ≡ Request.Usage → leaves Told.Usage room log ≡ answered w list room log
  unfolding answered
  usage_answered e = rw e refl

  module _ (room₁ log₁ : List ℕ) (c : Counts) (few : length list ≤ most_bytes) (s : Saved list room log room₁ log₁ c) where
    pub list-answered : w ≡ Request.List → leaves (Told.List c) room₁ log₁ ≡ answered w list room log
    unfolding answered saved
    list-answered e =
        rw (e, le-ltb most_bytes (length list) few) (leaves_alike (ap Told.List s.counts) s.room-is s.log_is)

    pub log-answered : w ≡ Request.Log → leaves (Told.Account c) room₁ log₁ ≡ answered w list room log
    unfolding answered saved
    log-answered e =
        rw (e, le-ltb most_bytes (length list) few) (leaves_alike (ap Told.Account s.counts) s.room-is s.log_is)

-- What is told, line by line, is the whole text, on standard output and on standard error.
module _ (list room log : List ℕ) (h : most_bytes ≤ length room) (k : log_numbers ≤ length log) where
  account_is : length list ≤ most_bytes → account_from list (sets log 0 (logged list)) (counted (scan list)) ≡ account_of list
  unfolding account_from account_of counted output entries
  account_is few =
      let a : take (2 * entries list) (sets log 0 (logged list)) ≡ logged list =
      rw (← log-numbers list) (front_reads (logged list) log (omega (arith, log-few list few))) in
      rw a refl

  pub told-is_written : (w : Request) → told_text list (answered w list room log) ≡ written w list
  unfolding answered written told_text saved counted output
  told-is_written Request.Usage = refl
  told-is_written Request.List = go (ltb most_bytes (length list)) refl
    where
      go : (t : Bool) → ltb most_bytes (length list) ≡ t
          → told_text list (cond t (leaves Told.TooLong room log) (saved (Told.List (counted (scan list))) list room log))
          ≡ cond t too_long_line (output list)
      go true e = refl
      go false e = front_reads (output list) room (omega (arith, output-few list (ltb-false _ _ e)))
  told-is_written Request.Log = go (ltb most_bytes (length list)) refl
    where
      go : (t : Bool) → ltb most_bytes (length list) ≡ t
          → told_text list (cond t (leaves Told.TooLong room log) (saved (Told.Account (counted (scan list))) list room log))
          ≡ cond t too_long_line (account_of list)
      go true e = refl
      go false e = account_is (ltb-false _ _ e)

  pub told-is_noted : (w : Request) → told_note list (answered w list room log) ≡ noted w list
  unfolding answered noted told_note saved
  told-is_noted Request.Usage = refl
  told-is_noted Request.List = go (ltb most_bytes (length list)) refl
    where
      go : (t : Bool) → ltb most_bytes (length list) ≡ t
          → told_note list (cond t (leaves Told.TooLong room log) (saved (Told.List (counted (scan list))) list room log))
          ≡ cond t [] (account_of list)
      go true e = refl
      go false e = account_is (ltb-false _ _ e)
  told-is_noted Request.Log = go (ltb most_bytes (length list)) refl
    where
      go : (t : Bool) → ltb most_bytes (length list) ≡ t
          → told_note list (cond t (leaves Told.TooLong room log) (saved (Told.Account (counted (scan list))) list room log)) ≡ []
      go true e = refl
      go false e = refl

-- each line fits a room of 64 bytes
pub usage_fits : length usage_line ≤ 64
unfolding usage_line ascii
usage_fits = omega arith

pub too_long-fits : length too_long_line ≤ 64
unfolding too_long_line ascii
too_long-fits = omega arith

pub skipped_fits : (start n : ℕ) → start < 2 ^ 64 → n < 2 ^ 64 → length (skipped_line start n) ≤ 64
unfolding skipped_line ascii
skipped_fits start n h k =
    omega (arith, pair-length (ascii "skipped ") (ascii " at ") 19 19 n start (omega arith) (omega arith))

pub kept-fits : (records bytes : ℕ) → records < 2 ^ 64 → bytes < 2 ^ 64 → length (kept_line records bytes) ≤ 64
unfolding kept_line ascii
kept-fits records bytes h k =
    omega (arith, pair-length (ascii "kept records ") (ascii ", bytes ") 19 19 records bytes (omega arith) (omega arith))

-- the program's room for its input is large enough
pub most-read_within : (w : Request) → most_read w ≤ 1000001
unfolding most_read
most-read_within Request.Usage = omega arith
most-read_within Request.List = omega arith
most-read_within Request.Log = omega arith
