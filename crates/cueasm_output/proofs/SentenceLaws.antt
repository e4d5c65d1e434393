-- Laws of sentences.
use Prim.Native.Nat.{ℕ, suc, ◌+◌, ◌^◌, min, ◌≤◌, ◌<◌}
use mathlib.Core.Path.{◌≡◌, refl}
use mathlib.Core.List.{List, [], ◌∷◌, map}
use native.Mathlib.Omega.{arith}
use native.Mathlib.Numerals.{add-one}
use native.Mathlib.Decide.{dec_le}
use lib.ListN.{length, get_or, take, drop, length-append, length-take, length-map}
use lib.Seq.{drop-cons, take_all}
use Rattle.text.specs.Number.{ascii}
use Rattle.text.specs.Room.{filled, put_at}
use Rattle.text.specs.Line.{numbered}
use Rattle.text.proofs.RoomLaws.{put_rest}
use Rattle.text.proofs.DecimalLaws.{decimal-length}
use Rattle.cue_text.specs.Fault.{fault_of, fault_word}
use Rattle.cue_text.specs.declared.fault.Cause.{Cause}
use Rattle.cueasm_output.specs.Sentence.{says, shown, quoted, sentence}

-- a turn of the loop over a word's bytes
pub shown-put : (s : List ℕ) (i at : ℕ) (room : List ℕ) {r : ℕ} {room₁ : List ℕ} → i < length s
    → filled r room₁ ≡ put_at (shown (get_or s i 0) ∷ []) at room
    → put_at (map shown (drop (i + 1) s)) r room₁ ≡ put_at (map shown (drop i s)) at room
shown-put s i at room h f =
    rw (drop-cons s i 0 h, add-one) (put_rest (shown (get_or s i 0) ∷ []) (map shown (drop (suc i) s)) at room f)

-- a word's first bytes, as many as there are
pub first-bytes : (w : List ℕ) (n : ℕ) → n ≡ min 32 (length w) → take n w ≡ take 32 w
first-bytes w n e = go (dec_le (length w) 32)
  where
    go : Dec (length w ≤ 32) → take n w ≡ take 32 w
    go (yes h) = let q : length w ≤ n = omega arith in rw (take_all n w q, take_all 32 w h) refl
    go (no h) = let q : n ≡ 32 = omega arith in rw q refl

says-most : (c : Cause) → length (says c) ≤ 140
unfolding says ascii
says-most Cause.Form = omega arith
says-most Cause.Space = omega arith
says-most Cause.Address = omega arith
says-most Cause.Value = omega arith
says-most Cause.NoName = omega arith
says-most Cause.NotDefined = omega arith
says-most Cause.Again = omega arith
says-most Cause.TooMany = omega arith
says-most Cause.Records = omega arith
says-most Cause.NoSpace = omega arith
says-most Cause.Misaligned = omega arith
says-most Cause.PastEnd = omega arith
says-most Cause.ReadOnly = omega arith
says-most Cause.Unlock = omega arith
says-most Cause.PacketCount = omega arith
says-most Cause.TooWide = omega arith

quoted-most : (w : List ℕ) → length (quoted w) ≤ 34
unfolding quoted ascii
quoted-most w = simp (length-append, length-map, length-take) (omega arith)

-- A sentence is a short line.
pub sentence-most : (n line : ℕ) (text : List ℕ) → line < 2 ^ 64 → length (sentence n line text) ≤ 202
unfolding sentence numbered ascii
sentence-most n line text h =
    let d = decimal-length 19 line (omega arith) in
    let q = quoted-most (fault_word n line text) in
    let s = says-most (fault_of n line text).cause in
    simp length-append (omega arith)
