-- Laws of what is put.
use Prim.Native.Nat.{ℕ, ◌+◌, ◌-◌, min, ◌≤◌}
use mathlib.Core.Path.{◌≡◌, refl, sym, ap, ◌∙◌}
use mathlib.Core.List.{List, [], ◌++◌, append-nil}
use native.Mathlib.Omega.{arith}
use lib.ListN.{length, take, drop, drop_of_length-le}
use Rattle.lbp16.specs.declared.pointer.Pointers.{Pointers}
use Rattle.packet.proofs.SliceLaws.{tail-whole}
use Rattle.cue.specs.Output.{Front, front_of, frame_listed}
use Rattle.recording.specs.Recording.{left, judged_in}
use Rattle.cue.specs.declared.frame.Frame.{Frame}
use Rattle.recording.specs.declared.Judged.{Judged}
use Rattle.cue.proofs.FrameLaws.{front-within}
use Rattle.text.specs.Number.{ascii}
use Rattle.text.specs.Room.{Filled, filled, put_at, text_left}
use Rattle.text.proofs.FindLaws.{rest-is}
use Rattle.text.proofs.RoomLaws.{put_then, put_front}
use Rattle.showcheck_output.specs.Findings.{hex_line, around, frame_end, bytes_of_front, behind_front, both_replies}
use Rattle.showcheck_output.specs.Findings.{unanswered, judgment_text, left_text, judged_text}
use Rattle.showcheck_output.proofs.AroundLaws.{inside, most}

-- a whole frame stands within the bytes
pub end-within : (rest : List ℕ) → frame_end (front_of rest) ≤ length rest
unfolding frame_end
end-within rest = go (front_of rest) refl
  where
    go : (f : Front) → f ≡ front_of rest → frame_end f ≤ length rest
    go Front.end e = omega arith
    go Front.cut e = omega arith
    go Front.unmarked e = omega arith
    go (Front.frame n) e = front-within rest n e

module _ (rest : List ℕ) {frame : Frame} (e : frame_listed frame ≡ front_of rest) where
  pub end_is : (x : Frame) → frame ≡ x → frame_end (frame_listed x) ≡ frame_end (front_of rest)
  end_is x q = rw q at (ap frame_end e)

  pub none_is : (x : Frame) → frame ≡ x → unanswered (frame_listed x) ≡ unanswered (front_of rest)
  none_is x q = rw q at (ap unanswered e)

  pub whole-within : (n : ℕ) → frame ≡ Frame.Whole n → 4 + n ≤ length rest
  whole-within n q = front-within rest n (rw q at e)

-- the bytes of the frame at the front, as its ends are computed
pub front_bytes_lem : (rest : List ℕ) {end from : ℕ} → end ≡ frame_end (front_of rest) → from ≡ min 4 end
    → take (end - from) (drop from rest) ≡ bytes_of_front rest
unfolding bytes_of_front
front_bytes_lem rest {end} {from} e f = inside rest end from 4 (rw e (end-within rest)) f ∙ rw e refl

pub behind-front : (rest : List ℕ) {n : ℕ} → n ≡ frame_end (front_of rest) → take (length rest - n) (drop n rest) ≡ behind_front rest
unfolding behind_front
behind-front rest {n} e = tail-whole n rest ∙ rw e refl

-- both replies; `own` is as many bytes as were found, or all of the reply
pub replies-put : (found reply : List ℕ) (k own at : ℕ) (room : List ℕ) {room₁ room₂ : List ℕ} {a m : ℕ}
    → own ≡ min (length found) (length reply)
    → filled a room₁ ≡ put_at (hex_line (ascii "expected") (around k (take own reply))) at room
    → filled m room₂ ≡ put_at (hex_line (ascii "found   ") (around k found)) a room₁
    → filled m room₂ ≡ put_at (both_replies found reply k) at room
unfolding both_replies
replies-put found reply k own at room e p q =
    put_then _ _ at room (rw (sym (most reply (length found) own e)) at p) q

-- what is put of what judging answers and leaves
pub judged-is : (recording frames store room : List ℕ) (p : Pointers) (j : Judged) (store₁ room₁ : List ℕ) (at : ℕ)
    → left j store₁ room₁ ≡ judged_in recording store p room → at ≡ min j.at (length recording)
    → judgment_text j.judgment frames (take (length recording - at) (drop at recording)) store₁ j.pointers room₁
    ≡ judged_text recording frames store p room
unfolding judged_text left_text left
judged-is recording frames store room p j store₁ room₁ at e a = rw (← e, rest-is recording j.at at a) refl

-- a room of the same length becomes what is put there
pub becomes : (file store : List ℕ) {store₁ : List ℕ} {n : ℕ} → length file ≡ length store → filled n store₁ ≡ put_at file 0 store
    → store₁ ≡ file
unfolding text_left
becomes file store {store₁} h e =
    let f = e ∙ put_front file store (omega arith) in
    let g : store₁ ≡ file ++ drop (length file) store = ap (λ (x : Filled). x.room) f in
    let z : drop (length file) store ≡ [] = drop_of_length-le store {i = length file} (omega arith) in
    g ∙ rw z (append-nil file)
