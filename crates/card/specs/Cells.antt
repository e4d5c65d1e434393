-- Cells of 4 bytes in a store, from a place on: read into words, or written from them.
use Rattle.std.specs.Prelude.{ℕ, zero, suc, ◌+◌, ◌*◌, List, [], ◌∷◌, Bool, true, ◌&&◌, cond, leb, length, take, drop}
use Rattle.std.proofs.lemmas.List.Edits.{sets}
use Rattle.packet.specs.Bytes.{number, bytes_of}

-- n cells from place a on, d apart, which is at most 4, end within so many bytes
unfoldable pub cells_within : ℕ → ℕ → ℕ → ℕ → Bool
cells_within zero a d bytes = true
cells_within (suc n) a d bytes = leb d 4 && leb (a + n * d + 4) bytes

-- their numbers
unfoldable pub cells : ℕ → ℕ → ℕ → List ℕ → List ℕ
cells zero a d store = []
cells (suc n) a d store = number (take 4 (drop a store)) ∷ cells n (a + d) d store

-- the store with a number in each of them
unfoldable pub filled : List ℕ → ℕ → ℕ → List ℕ → List ℕ
filled [] a d store = store
filled (w ∷ ws) a d store = filled ws (a + d) d (sets store a (bytes_of 4 w))

-- the answer after cells are read into it: 0, and a cell for each word behind the first; as it was where one is past the end
unfoldable pub cells_read : List ℕ → ℕ → ℕ → List ℕ → List ℕ
cells_read store a d [] = []
cells_read store a d (w ∷ ws) =
    cond (cells_within (length ws) a d (length store)) (0 ∷ cells (length ws) a d store) (w ∷ ws)

-- the store after the words behind the first are written into its cells; as it was where one is past the end
unfoldable pub cells_written : List ℕ → ℕ → ℕ → List ℕ → List ℕ
cells_written [] a d store = store
cells_written (w ∷ ws) a d store = cond (cells_within (length ws) a d (length store)) (filled ws a d store) store
