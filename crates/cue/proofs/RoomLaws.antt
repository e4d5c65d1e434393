-- Writing one record leaves the output of the packets so far at the front of the room.
use Prim.Native.Nat.{ℕ, ◌+◌, ◌-◌, ◌≤◌}
use mathlib.Core.Path.{◌≡◌, refl, sym, ap, ◌∙◌}
use mathlib.Core.List.{List, [], ◌∷◌, ◌++◌, append_assoc, append-nil}
use mathlib.Core.Bool.{Bool, true, false, cond}
use native.Mathlib.Omega.{arith}
use lib.ListN.{length, drop, length-append, length-drop}
use lib.Seq.{sets, sets-eq, take_at, drop-drop, drop-append-add, drop-append_seam}
use Rattle.lbp16.specs.Space.{space_number, row}
use Rattle.lbp16.specs.Word.{word_of, bit}
use Rattle.packet.specs.Bytes.{bytes_of}
use Rattle.packet.specs.Step.{Step, is_write}
use Rattle.cue.specs.Packing.{Command, Open, commands_of, joined, started, needs_unlock, unlock_command}
use Rattle.cue.specs.Packing.{join_all, bytes_of_command, command_fields, bytes_of_packet}
use Rattle.cue.specs.Output.{framed, output_of}
use Rattle.cue.specs.Inside.{room_after, Planned}
use Rattle.cue.specs.Summary.{Progress, none, some, summary}
use Rattle.cue.specs.Compile.{bytes_of_output}
use Rattle.cue.specs.Records.{brief}
use Rattle.cue.specs.Summary.{bytes_of_mark, last_fields, bytes_of_header, bytes_of_unlock, framed_at, unlocked_at, headed_at, wrote, turned_by}
use Rattle.cue.specs.declared.packer.Packer.{Packer}
use Rattle.cue.proofs.PacketLaws.{packet-bytes_append, join_append}
use Rattle.cue.proofs.PackingLaws.{space-again}
use Rattle.cue.proofs.PackerLaws.{Fine, Rising, output-append, output-one, turned-cases, joined-summary, started-summary, advance, finished}
use Rattle.cue.proofs.PackerLaws.{knows_open, knows-closed, knows-none, none-turned, unlock-length, started-before, started-length}
use Rattle.lbp16.proofs.ListLaws.{sets_append}

-- a store behind a front, and one that replaces what stood there
put : (p t q : List ℕ) (n : ℕ) → length p ≡ n → length q ≤ length t → sets (p ++ t) n q ≡ p ++ (q ++ drop (length q) t)
put p t q n e h =
    sets-eq q (p ++ t) n (rw length-append (omega arith))
    ∙ rw (take_at p t n e, ← e, drop-append-add, append_assoc) refl

replace : (p q r s : List ℕ) (n : ℕ) → length p ≡ n → length q ≡ length s → sets (p ++ (q ++ r)) n s ≡ p ++ (s ++ r)
replace p q r s n e h =
    put p (q ++ r) s n e (rw length-append (omega arith)) ∙ rw (← h, drop-append_seam) refl

-- the last command's word and address
pub head_of : Command → List ℕ
head_of c = bytes_of 2 (word_of (command_fields c)) ++ bytes_of 2 c.address

pub head-length : (c : Command) → length (head_of c) ≡ 4
unfolding head_of bytes_of
head-length c = refl

frame-length : (n : ℕ) → length (bytes_of_mark n) ≡ 4
unfolding bytes_of_mark bytes_of
frame-length n = refl

-- a packet's bytes with its last command apart
last_apart : (cs : List Command) (c : Command)
    → bytes_of_packet (cs ++ (c ∷ [])) ≡ bytes_of_packet cs ++ (head_of c ++ join_all c.elements)
unfolding bytes_of_packet head_of bytes_of_command
last_apart cs c = rw (packet-bytes_append, append-nil) refl

frame-one : (cs : List Command) → bytes_of_output (cs ∷ []) ≡ bytes_of_mark (length (bytes_of_packet cs)) ++ bytes_of_packet cs
unfolding bytes_of_output output_of framed bytes_of_mark
frame-one cs = rw append-nil refl

-- the room with the open packet apart
tail : List (List Command) → Open → List ℕ → List ℕ
tail css o room = drop (length (bytes_of_output css) + 4 + length (bytes_of_packet (commands_of o))) room

room-some : (css : List (List Command)) (o : Open) (room : List ℕ)
    → room_after (Planned.packed (finished (some css o))) room
    ≡ bytes_of_output css ++ (bytes_of_mark (length (bytes_of_packet (commands_of o))) ++ (bytes_of_packet (commands_of o) ++ tail css o room))
unfolding room_after finished tail
room-some css o room =
    let n : length (bytes_of_output css) + (4 + length (bytes_of_packet (commands_of o)))
    ≡ length (bytes_of_output css) + 4 + length (bytes_of_packet (commands_of o)) =
    omega arith in
    rw (output-append, length-append, output-one, n, frame-one, append_assoc, append_assoc) refl

-- the last command's head is what the packer writes
head-same : (css : List (List Command)) (o : Open) (u : Bool) → o.last.increment ≡ true
    → bytes_of_header (summary (some css o) u) ≡ head_of o.last
unfolding bytes_of_header head_of last_fields summary command_fields
head-same css o u i = rw (space-again, i) refl

-- (a) on lists: frame and head are replaced, the element is put behind
join_list : (P F F₂ B H H₂ E x T : List ℕ) (f w e : ℕ) → length P ≡ f → length F ≡ 4 → length F₂ ≡ 4 → length H ≡ 4
    → length H₂ ≡ 4 → length P + 4 + length B ≡ w → length P + 4 + length B + 4 + length E ≡ e → length x ≤ length T
    → sets (sets (sets (P ++ (F ++ ((B ++ (H ++ E)) ++ T))) f F₂) w H₂) e x
    ≡ P ++ (F₂ ++ ((B ++ (H₂ ++ (E ++ x))) ++ drop (length x) T))
join_list P F F₂ B H H₂ E x T f w e a b c d g h i k =
    let one = replace P F (B ++ (H ++ (E ++ T))) F₂ f a (b ∙ sym c) in
    let two : sets (P ++ (F₂ ++ (B ++ (H ++ (E ++ T))))) w H₂ ≡ P ++ (F₂ ++ (B ++ (H₂ ++ (E ++ T)))) =
    simp append_assoc at (replace (P ++ (F₂ ++ B)) H (E ++ T) H₂ w (simp length-append (omega arith)) (d ∙ sym g)) in
    let three : sets (P ++ (F₂ ++ (B ++ (H₂ ++ (E ++ T))))) e x ≡ P ++ (F₂ ++ (B ++ (H₂ ++ (E ++ (x ++ drop (length x) T))))) =
    simp append_assoc at (put (P ++ (F₂ ++ (B ++ (H₂ ++ E)))) T x e (simp length-append (omega arith)) k) in
    simp (append_assoc, one, two, three)

-- (b) and (c) on lists: all is put behind
start-list : (P F B U H x T : List ℕ) (a w e : ℕ) → length F ≡ 4 → length H ≡ 4 → length P + 4 + length B ≡ a
    → a + length U ≡ w → a + length U + 4 ≡ e → length U + 4 + length x ≤ length T
    → sets (sets (sets (P ++ (F ++ (B ++ T))) a U) w H) e x
    ≡ P ++ (F ++ ((B ++ (U ++ (H ++ x))) ++ drop (length U + 4 + length x) T))
start-list P F B U H x T a w e b c d g h k =
    let all : length (U ++ (H ++ x)) ≡ length U + 4 + length x = simp length-append (omega arith) in
    let m : a + length (U ++ H) ≡ e = rw length-append (omega arith) in
    let one : sets (sets (sets (P ++ (F ++ (B ++ T))) a U) w H) e x ≡ sets (P ++ (F ++ (B ++ T))) a (U ++ (H ++ x)) =
    rw (← g, sets_append, ← m, sets_append, append_assoc) refl in
    let two = put (P ++ (F ++ B)) T (U ++ (H ++ x)) a (simp length-append (omega arith)) (rw all (omega arith)) in
    one ∙ simp (append_assoc, all) at two ∙ simp append_assoc

-- the unlock command's bytes, where it is put in
unlock-put : (need : Bool) (l : List ℕ) (a w : ℕ) → w ≡ a + cond need 6 0
    → cond need (sets l (w - 6) bytes_of_unlock) l ≡ sets l a (bytes_of_packet (cond need (unlock_command ∷ []) []))
unfolding bytes_of_packet bytes_of_command command_fields unlock_command join_all bytes_of word_of bit is_write space_number row
unlock-put true l a w e = let z : w - 6 ≡ a = omega arith in rw z refl
unlock-put false l a w e = refl

-- (b) and (c): the new command behind the packet's frame and bytes
module _ (cs : List Command) (x : Step) (f : Fine x) (css : List (List Command)) where
  abbrev o : Open
  o = started cs x

  abbrev q : Packer
  q = summary (some css o) (needs_unlock cs x)

  started-bytes : bytes_of_packet (commands_of o)
      ≡ bytes_of_packet cs ++ (bytes_of_packet (cond (needs_unlock cs x) (unlock_command ∷ []) []) ++ (head_of o.last ++ x.bytes))
  unfolding commands_of started join_all
  started-bytes = rw (last_apart, packet-bytes_append, append_assoc, append-nil) refl

  rising : o.last.increment ≡ true
  unfolding started
  rising = refl

  started-room : (room T : List ℕ)
      → framed_at q room ≡ bytes_of_output css ++ (bytes_of_mark (length (bytes_of_packet (commands_of o))) ++ (bytes_of_packet cs ++ T))
      → cond (needs_unlock cs x) 6 0 + 4 + length x.bytes ≤ length T
      → wrote q x.bytes room
      ≡ bytes_of_output css ++ (bytes_of_mark (length (bytes_of_packet (commands_of o)))
      ++ (bytes_of_packet (commands_of o) ++ drop (cond (needs_unlock cs x) 6 0 + 4 + length x.bytes) T))
  unfolding wrote headed_at unlocked_at summary
  started-room room T e h =
      let P = bytes_of_output css in
      let F = bytes_of_mark (length (bytes_of_packet (commands_of o))) in
      let U = bytes_of_packet (cond (needs_unlock cs x) (unlock_command ∷ []) []) in
      let H = head_of o.last in
      let a = length P + 4 + length (bytes_of_packet cs) in
      let u : length U ≡ cond (needs_unlock cs x) 6 0 = unlock-length cs x f (needs_unlock cs x) in
      let w : length P + 4 + length (bytes_of_packet o.before) ≡ a + cond (needs_unlock cs x) 6 0 =
      rw (started-before cs x f) (omega arith) in
      let d : a + length U + 4 ≡ length P + 4 + length (bytes_of_packet (commands_of o)) - length x.bytes =
      rw (started-length cs x f) (omega arith) in
      let L = P ++ (F ++ (bytes_of_packet cs ++ T)) in
      let put : cond (needs_unlock cs x) (sets L (length P + 4 + length (bytes_of_packet o.before) - 6) bytes_of_unlock) L ≡ sets L a U =
      unlock-put (needs_unlock cs x) L a _ w in
      rw (e, put, head-same css o (needs_unlock cs x) rising)
      (start-list P F (bytes_of_packet cs) U H x.bytes T a (length P + 4 + length (bytes_of_packet o.before)) _ (frame-length _) (head-length _) refl
      (omega arith) d (omega arith)
      ∙ rw (← started-bytes, u) refl)

-- the room of the packets so far
abbrev pub room_of : Progress → List ℕ → List ℕ
room_of s room = room_after (Planned.packed (finished s)) room

-- the bytes of the packets so far
pub finished-length : (css : List (List Command)) (o : Open)
    → length (bytes_of_output (finished (some css o))) ≡ length (bytes_of_output css) + 4 + length (bytes_of_packet (commands_of o))
unfolding finished
finished-length css o = rw (output-append, length-append, output-one) (omega arith)

-- (b)
started-behind : (css : List (List Command)) (o : Open) (x : Step) (f : Fine x) (room : List ℕ)
    → length (bytes_of_output (finished (some css (started (commands_of o) x)))) ≤ length room
    → wrote (summary (some css (started (commands_of o) x)) (needs_unlock (commands_of o) x)) x.bytes (room_of (some css o) room)
    ≡ room_of (some css (started (commands_of o) x)) room
unfolding framed_at summary tail
started-behind css o x f room h =
    let cs = commands_of o in
    let o₂ = started cs x in
    let P = bytes_of_output css in
    let K = bytes_of_packet cs in
    let n = cond (needs_unlock cs x) 6 0 + 4 + length x.bytes in
    let T = tail css o room in
    let F = bytes_of_mark (length (bytes_of_packet (commands_of o₂))) in
    let q = summary (some css o₂) (needs_unlock cs x) in
    let m = started-length cs x f in
    let l = rw finished-length at h in
    let one : framed_at q (room_of (some css o) room) ≡ P ++ (F ++ (K ++ T)) =
    rw room-some (replace P (bytes_of_mark (length K)) (K ++ T) F (length P) refl (frame-length _ ∙ sym (frame-length _))) in
    let k : length P + 4 + length K + n ≡ length P + 4 + length (bytes_of_packet (commands_of o₂)) = omega arith in
    let same : drop n T ≡ tail css o₂ room = rw (drop-drop, k) refl in
    started-room cs x f css _ T one (rw length-drop (omega arith)) ∙ rw (room-some, same) refl

-- (c), and the first record
fresh-behind : (css : List (List Command)) (x : Step) (f : Fine x) (room : List ℕ)
    → length (bytes_of_output (finished (some css (started [] x)))) ≤ length room
    → wrote (summary (some css (started [] x)) (needs_unlock [] x)) x.bytes (room_after (Planned.packed css) room)
    ≡ room_of (some css (started [] x)) room
unfolding framed_at summary tail room_after bytes_of_packet
fresh-behind css x f room h =
    let o = started [] x in
    let P = bytes_of_output css in
    let n = cond (needs_unlock [] x) 6 0 + 4 + length x.bytes in
    let T = drop (length P) room in
    let F = bytes_of_mark (length (bytes_of_packet (commands_of o))) in
    let q = summary (some css o) (needs_unlock [] x) in
    let m = started-length [] x f in
    let l = rw finished-length at h in
    let four : length F ≡ 4 = frame-length _ in
    let one : framed_at q (P ++ T) ≡ P ++ (F ++ drop 4 T) =
    put P T F (length P) refl (rw (four, length-drop) (omega arith)) ∙ rw four refl in
    let k : length P + (4 + n) ≡ length P + 4 + length (bytes_of_packet (commands_of o)) = omega arith in
    let same : drop n (drop 4 T) ≡ tail css o room = rw (drop-drop n 4 T, drop-drop (4 + n) (length P) room, k) refl in
    started-room [] x f css _ (drop 4 T) one (rw (length-drop, length-drop) (omega arith)) ∙ rw (room-some, same) refl

-- (a)
joined-apart : (o : Open) (x : Step)
    → bytes_of_packet (commands_of (joined o x))
    ≡ bytes_of_packet o.before ++ (head_of (joined o x).last ++ (join_all o.last.elements ++ x.bytes))
unfolding commands_of joined join_all
joined-apart o x = rw (last_apart, join_append, append-nil) refl

pub open_apart : (o : Open) → bytes_of_packet (commands_of o) ≡ bytes_of_packet o.before ++ (head_of o.last ++ join_all o.last.elements)
unfolding commands_of
open_apart o = last_apart o.before o.last

joined-before : (o : Open) (x : Step) → (joined o x).before ≡ o.before
unfolding joined
joined-before o x = refl

joined-rising : (o : Open) (x : Step) → o.last.increment ≡ true → (joined o x).last.increment ≡ true
unfolding joined
joined-rising o x i = i

joined-behind : (css : List (List Command)) (o : Open) (x : Step) (room : List ℕ) → o.last.increment ≡ true
    → length (bytes_of_output (finished (some css (joined o x)))) ≤ length room
    → wrote (summary (some css (joined o x)) false) x.bytes (room_of (some css o) room) ≡ room_of (some css (joined o x)) room
unfolding wrote framed_at unlocked_at headed_at summary tail
joined-behind css o x room i h =
    let o₂ = joined o x in
    let P = bytes_of_output css in
    let F = bytes_of_mark (length (bytes_of_packet (commands_of o))) in
    let F₂ = bytes_of_mark (length (bytes_of_packet (commands_of o₂))) in
    let B = bytes_of_packet o.before in
    let H = head_of o.last in
    let H₂ = head_of o₂.last in
    let E = join_all o.last.elements in
    let T = tail css o room in
    let l = rw finished-length at h in
    let bytes : length (bytes_of_packet (commands_of o)) ≡ length B + (4 + length E) =
    rw (open_apart, length-append, length-append, head-length) refl in
    let bytes₂ : length (bytes_of_packet (commands_of o₂)) ≡ length B + (4 + (length E + length x.bytes)) =
    rw (joined-apart, length-append, length-append, length-append, head-length) refl in
    let from : room_of (some css o) room ≡ P ++ (F ++ ((B ++ (H ++ E)) ++ T)) =
    room-some css o room ∙ ap (λ (k : List ℕ). P ++ (F ++ (k ++ T))) (open_apart o) in
    let k : length P + 4 + length (bytes_of_packet (commands_of o)) + length x.bytes
    ≡ length P + 4 + length (bytes_of_packet (commands_of o₂)) =
    omega arith in
    let same : drop (length x.bytes) T ≡ tail css o₂ room = rw (drop-drop, k) refl in
    let to : P ++ (F₂ ++ ((B ++ (H₂ ++ (E ++ x.bytes))) ++ drop (length x.bytes) T)) ≡ room_of (some css o₂) room =
    rw (room-some, same) (ap (λ (k : List ℕ). P ++ (F₂ ++ (k ++ tail css o₂ room))) (sym (joined-apart o x))) in
    let w : length P + 4 + length B ≡ length P + 4 + length (bytes_of_packet o₂.before) = rw joined-before refl in
    let e : length P + 4 + length B + 4 + length E ≡ length P + 4 + length (bytes_of_packet (commands_of o₂)) - length x.bytes =
    omega arith in
    rw (from, head-same css o₂ false (joined-rising o x i))
    (join_list P F F₂ B H H₂ E x.bytes T _ _ _ refl (frame-length _) (frame-length _) (head-length _) (head-length _) w e
    (rw length-drop (omega arith))
    ∙ to)

-- Writing a record's bytes turns the room of the packets so far into that of the packets with it.
pub wrote-next : (s : Progress) (u : Bool) (x : Step) → Fine x → Rising s → (room : List ℕ)
    → length (bytes_of_output (finished (advance s x))) ≤ length room
    → wrote (turned_by (summary s u) (brief x)) x.bytes (room_of s room) ≡ room_of (advance s x) room
unfolding advance finished
wrote-next none u x f i room h =
    rw (none-turned u x, started-summary [] x f _ [] (knows-none u x f)) (fresh-behind [] x f room h)
wrote-next (some css o) u x f i room h =
    turned-cases css o u x f i.1
    (λ q t. length (bytes_of_output (finished t)) ≤ length room → wrote q x.bytes (room_of (some css o) room) ≡ room_of t room)
    (λ j h. rw (joined-summary css o u x f i.1 j i.0) (joined-behind css o x room i.0 h))
    (λ h. rw (started-summary (commands_of o) x f _ css (knows_open css o u x f)) (started-behind css o x f room h))
    (λ h. rw (started-summary [] x f _ _ (knows-closed css o u x f)) (fresh-behind _ x f room h))
    h
