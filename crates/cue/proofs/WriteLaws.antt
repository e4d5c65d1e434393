-- Laws of what the second pass writes.
use Prim.Native.Nat.{ℕ, ◌+◌, ◌-◌, ◌≤◌}
use mathlib.Core.Path.{◌≡◌, refl, ◌∙◌}
use mathlib.Core.List.{List, [], ◌∷◌, ◌++◌}
use mathlib.Core.Bool.{true, false}
use native.Mathlib.Omega.{arith}
use lib.ListN.{length, take, drop, length-take, length-drop}
use Rattle.std.specs.Prelude.{Result, Ok, Err}
use Rattle.std.specs.Result.{result_unwrap_or}
use lib.Seq.{sets}
use borrow.Author.Tests.{le-ltb}
use Rattle.lbp16.specs.Space.{space_of, row}
use Rattle.lbp16.specs.Answer.{Answer}
use Rattle.lbp16.specs.Word.{word_of, out_of_range, written, listed}
use Rattle.lbp16.specs.declared.Refusal.{Refusal}
use Rattle.lbp16.proofs.SpaceLaws.{size_le}
use Rattle.packet.specs.Bytes.{bytes_of}
use Rattle.lbp16.proofs.ListLaws.{sets_append}
use Rattle.cue.specs.Summary.{last_fields, framed_at, unlocked_at, headed_at, wrote, bytes_of_unlock}
use Rattle.cue.specs.declared.packer.Packer.{Packer}

pub put4_is : (l : List ℕ) (at a b : ℕ) → sets (sets l at (bytes_of 2 a)) (at + 2) (bytes_of 2 b) ≡ sets l at (bytes_of 2 a ++ bytes_of 2 b)
unfolding bytes_of
put4_is l at a b = sets_append l at (bytes_of 2 a) (bytes_of 2 b)

pub unlock-is : (l : List ℕ) (at : ℕ)
    → sets (sets l at (bytes_of 2 0xD901 ++ bytes_of 2 0x1A)) (at + 4) (bytes_of 2 0x5A02) ≡ sets l at bytes_of_unlock
unfolding bytes_of
unlock-is l at = sets_append l at (0x01 ∷ 0xD9 ∷ 0x1A ∷ 0x00 ∷ []) (0x02 ∷ 0x5A ∷ [])

-- the last command's word is in range
pub last_written : (q : Packer) → q.space ≤ 7 → q.count ≤ 127
    → written (last_fields q) ≡ Answer.accepted (word_of (last_fields q) ∷ [])
unfolding written out_of_range last_fields
last_written q h k =
    rw (le-ltb 7 q.space h, le-ltb 3 (row (space_of q.space)).size (size_le _), le-ltb 127 q.count k) refl

-- so what the code gives for it is no 0
pub word-is : (q : Packer) (s : ℕ) (r : Result ℕ Refusal) → q.space ≤ 7 → q.count ≤ 127 → s ≡ (row (space_of q.space)).size
    → listed r ≡ written (record {
      write = q.write;
      address = true;
      info = false;
      space = q.space;
      size = s;
      increment = true;
      count = q.count;
    })
    → result_unwrap_or r 0 ≡ word_of (last_fields q)
unfolding listed last_fields
word-is q s r h k a e = go r (rw a at e ∙ last_written q h k)
  where
    go : (r : Result ℕ Refusal) → listed r ≡ Answer.accepted (word_of (last_fields q) ∷ []) → result_unwrap_or r 0 ≡ word_of (last_fields q)
    go (Ok w) e = cc
    go (Err f) e = let y : ◌≡◌ {A = ℕ} 0 1 = cc in absurd (omega arith)

-- the parts of a record's writing, one behind the other
pub wrote-is : (q : Packer) (n : ℕ) (rest room : List ℕ) → 6 + n ≤ length rest
    → sets (headed_at q (unlocked_at q (framed_at q room))) (q.end - n) (take n (drop 6 rest)) ≡ wrote q (take n (drop 6 rest)) room
unfolding wrote
wrote-is q n rest room h =
    let e : length (take n (drop 6 rest)) ≡ n = rw (length-take, length-drop) (omega arith) in
    rw e refl
