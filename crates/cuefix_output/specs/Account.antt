-- What the salvaging program writes for the bytes that it is given.
use Rattle.std.specs.Prelude.{ℕ, zero, suc, ◌+◌, ◌-◌, ◌*◌, List, [], ◌∷◌, ◌++◌, Bool, ◌&&◌, cond, length, take, drop, eqb, ltb}
use Rattle.std.proofs.lemmas.List.Edits.{sets}
use Rattle.text.specs.Number.{ascii, bytes_of_hex}
use Rattle.text.specs.Line.{numbered, pair_line, too_long_line}
use Rattle.text.specs.Find.{same_bytes}
use Rattle.salvage.specs.Salvage.{size_at, scan, kept_count, counted, output, logged}
use Rattle.salvage.specs.declared.scan.Counts.{Counts}
use Rattle.cuefix_output.specs.declared.Request.{Request}
use Rattle.cuefix_output.specs.declared.Told.{Told}

-- the most bytes that a list may have: those of a hundred thousand writes
abbrev pub most_bytes : ℕ
most_bytes = 1000000

-- the numbers of the log
abbrev pub log_numbers : ℕ
log_numbers = 285716

unfoldable pub usage_line : List ℕ
usage_line = ascii "usage: cuefix [--log] < LIST\n"

-- one line for each stretch skipped
unfoldable pub skipped_line : ℕ → ℕ → List ℕ
skipped_line start n = pair_line (ascii "skipped ") n (ascii " at ") start

-- Before it the record that was kept last: it may have lost a byte, and have taken the first byte behind it for its own.
unfoldable pub record_line : List ℕ → ℕ → List ℕ
record_line bytes start = numbered (ascii "record at ") start ++ ascii "," ++ bytes_of_hex bytes ++ ascii ": look at it\n"

-- Of the records that stand one behind the other from a place up to another, where the last starts. `fuel` bounds their number.
unfoldable pub last_from : ℕ → List ℕ → ℕ → ℕ → ℕ
last_from zero list at to = at
last_from (suc fuel) list at to =
    let size = size_at (drop at list) in
    cond (ltb size (to - at)) (last_from fuel list (at + size) to) at

-- from the end of the stretch skipped before, or the list's start, up to the stretch
unfoldable pub look_line : List ℕ → ℕ → ℕ → List ℕ
look_line list from start =
    let k = last_from start list from start in
    cond (ltb from start) (record_line (take (start - k) (drop k list)) k) []

unfoldable pub lines_of : List ℕ → ℕ → List ℕ → List ℕ
lines_of list from [] = []
lines_of list from (start ∷ []) = []
lines_of list from (start ∷ n ∷ log) = look_line list from start ++ skipped_line start n ++ lines_of list (start + n) log

-- and a last line with the records and bytes kept
unfoldable pub kept_line : ℕ → ℕ → List ℕ
kept_line records bytes = pair_line (ascii "kept records ") records (ascii ", bytes ") bytes

unfoldable pub account_of : List ℕ → List ℕ
account_of list = lines_of list 0 (logged list) ++ kept_line (kept_count (scan list)) (length (output list))

-- all that the program writes to standard output: how it is used, the playable list, or the account
unfoldable pub written : Request → List ℕ → List ℕ
written Request.Usage list = usage_line
written Request.List list = cond (ltb most_bytes (length list)) too_long_line (output list)
written Request.Log list = cond (ltb most_bytes (length list)) too_long_line (account_of list)

-- and to standard error: beside a playable list its account
unfoldable pub noted : Request → List ℕ → List ℕ
noted Request.Usage list = []
noted Request.List list = cond (ltb most_bytes (length list)) [] (account_of list)
noted Request.Log list = []

-- What the program's function answers and leaves: what is to be written, and from which rooms.
pub record Left : Type 0 where
  pub told : Told
  pub room : List ℕ
  pub log : List ℕ

abbrev pub leaves : Told → List ℕ → List ℕ → Left
leaves told room log = record { told = told; room = room; log = log }

-- the playable list at the front of the room, and the stretches skipped at that of the log
unfoldable pub saved : Told → List ℕ → List ℕ → List ℕ → Left
saved told list room log = leaves told (sets room 0 (output list)) (sets log 0 (logged list))

unfoldable pub answered : Request → List ℕ → List ℕ → List ℕ → Left
answered Request.Usage list room log = leaves Told.Usage room log
answered Request.List list room log =
    cond (ltb most_bytes (length list)) (leaves Told.TooLong room log)
    (saved (Told.List (counted (scan list))) list room log)
answered Request.Log list room log =
    cond (ltb most_bytes (length list)) (leaves Told.TooLong room log)
    (saved (Told.Account (counted (scan list))) list room log)

-- The text of it: an account's lines are those of the log's entries, one by one, and the last.
unfoldable pub account_from : List ℕ → List ℕ → Counts → List ℕ
account_from list log c = lines_of list 0 (take (2 * c.entries) log) ++ kept_line c.records c.bytes

unfoldable pub told_text : List ℕ → Left → List ℕ
told_text list l = text_of l.told
  where
    text_of : Told → List ℕ
    text_of Told.Usage = usage_line
    text_of Told.TooLong = too_long_line
    text_of (Told.List c) = take c.bytes l.room
    text_of (Told.Account c) = account_from list l.log c

unfoldable pub told_note : List ℕ → Left → List ℕ
told_note list l = note_of l.told
  where
    note_of : Told → List ℕ
    note_of Told.Usage = []
    note_of Told.TooLong = []
    note_of (Told.List c) = account_from list l.log c
    note_of (Told.Account c) = []

-- What is asked for: by no argument the list, by "--log" alone the account, by anything else how the program is used.
unfoldable pub is_log : List ℕ → Bool
is_log word = same_bytes word (ascii "--log")

-- `count`: the program's name and its arguments
unfoldable pub requested : ℕ → List ℕ → Request
requested count word = cond (eqb count 1) Request.List (cond (eqb count 2 && is_log word) Request.Log Request.Usage)

-- the bytes of standard input that are looked at: one more than a list may have, so that a longer one is noticed
unfoldable pub most_read : Request → ℕ
most_read Request.Usage = 0
most_read Request.List = 1000001
most_read Request.Log = 1000001
