-- The output: frames, each the mark "LB", a length and a packet. Taking an output apart again.
use Rattle.std.specs.Prelude.{ℕ, zero, suc, ◌+◌, List, [], ◌∷◌, ◌++◌, cond, length, take, drop, eqb, ltb}
use Rattle.packet.specs.Bytes.{number, bytes_of}
use Rattle.packet.specs.Command.{limit}
use Rattle.cue.specs.declared.frame.Frame.{Frame}

-- "LB", as a number low byte first
abbrev pub frame_mark : ℕ
frame_mark = 0x424C

-- the most bytes of a packet's frame: mark, length and packet
abbrev pub frame_room : ℕ
frame_room = limit + 4

unfoldable pub framed : List ℕ → List ℕ
framed packet = bytes_of 2 frame_mark ++ bytes_of 2 (length packet) ++ packet

unfoldable pub output_of : List (List ℕ) → List ℕ
output_of [] = []
output_of (p ∷ ps) = framed p ++ output_of ps

-- An output taken apart at its marks and lengths, or unsound where a mark is missing or a packet is cut.
pub data Apart : Type 0 where
  unsound : Apart
  frames : List (List ℕ) → Apart

unfoldable pub with_frame : List ℕ → Apart → Apart
with_frame p unsound = unsound
with_frame p (frames ps) = frames (p ∷ ps)

unfoldable pub length_at : List ℕ → ℕ
length_at rest = number (take 2 (drop 2 rest))

-- What stands at the front of the bytes left: nothing, a frame that is cut, bytes without the mark, or a whole frame with so
-- many bytes behind its mark and length. One byte left is cut.
pub data Front : Type 0 where
  end : Front
  cut : Front
  unmarked : Front
  frame : ℕ → Front

unfoldable pub front_of : List ℕ → Front
front_of rest =
    cond (eqb (length rest) 0) end
    (cond (ltb (length rest) 2) cut
    (cond (eqb (number (take 2 rest)) frame_mark)
    (cond (ltb (length rest) (4 + length_at rest)) cut (frame (length_at rest)))
    unmarked))

-- the bytes in the frame at the front, if it has n, and those behind it
unfoldable pub bytes_in_frame : ℕ → List ℕ → List ℕ
bytes_in_frame n rest = take n (drop 4 rest)

unfoldable pub behind_frame : ℕ → List ℕ → List ℕ
behind_frame n rest = drop (4 + n) rest

unfoldable pub with_front : Front → List ℕ → Apart → Apart
with_front end rest others = frames []
with_front cut rest others = unsound
with_front unmarked rest others = unsound
with_front (frame n) rest others = with_frame (bytes_in_frame n rest) others

unfoldable pub apart_from : ℕ → List ℕ → Apart
apart_from zero rest = frames []
apart_from (suc fuel) rest = with_front (front_of rest) rest (apart_from fuel (behind_frame (length_at rest) rest))

unfoldable pub apart : List ℕ → Apart
apart output = apart_from (length output) output

-- what the code finds at the front, for each case
abbrev pub frame_listed : Frame → Front
frame_listed Frame.End = end
frame_listed Frame.Cut = cut
frame_listed Frame.Unmarked = unmarked
frame_listed (Frame.Whole n) = frame n
