-- What is said of a part, and that it fits its room.
use Prim.Native.Nat.{ℕ, ◌+◌, ◌^◌, ◌≤◌, ◌<◌, min}
use mathlib.Core.Path.{◌≡◌, refl, sym, ap, ◌∙◌}
use mathlib.Core.List.{List, []}
use native.Mathlib.Omega.{arith}
use borrow.Author.Tests.{le-ltb}
use lib.Dec.{eqb}
use lib.ListN.{length, take, drop, length-append}
use lib.Seq.{take-append_seam}
use Rattle.lbp16.specs.declared.pointer.Pointers.{Pointers}
use Rattle.cue.specs.Output.{Front, front_of, bytes_in_frame}
use Rattle.text.specs.Number.{ascii}
use Rattle.text.specs.Room.{Filled, filled, put_at}
use Rattle.text.proofs.LineLaws.{cond-length, numbered-length}
use Rattle.text.proofs.RoomLaws.{put_front, put_then}
use Rattle.cue.proofs.FrameLaws.{whole-frame}
use Rattle.card.specs.Run.{checked_packet}
use Rattle.reason.specs.Reason.{pointers_left}
use Rattle.packet_text.specs.Packet.{packet_text, most_text, PacketLeft, shown_left, shown_packet}
use Rattle.packet_text.specs.declared.Shown.{Shown}
use Rattle.lbp16.specs.Answer.{rule_number}
use Rattle.lbp16.specs.declared.Refusal.{Refusal}
use Rattle.lbp16.proofs.RuleLaws.{rule_number_range}
use Rattle.lbpdis_output.specs.Said.{packet_line, fault_line, cut_line, unmarked_line, end_line, part_text, passed_by, pointers_by}
use Rattle.lbpdis_output.specs.Said.{PartLeft, part_left, part_by, part_said}
use Rattle.lbpdis_output.specs.Inside.{part_put}
use Rattle.std.specs.Prelude.{Option, None, Some, IfSome, Result, Ok, Err, IsOk}

line-size : (i n : ℕ) → i < 2 ^ 64 → n < 2 ^ 64 → length (packet_line i n) ≤ 56
unfolding packet_line ascii
line-size i n a b =
    let x = numbered-length (ascii "packet ") i a in
    let y = numbered-length (ascii ", ") n b in
    let z = cond-length 7 (eqb n 1) (ascii " byte\n") (ascii " bytes\n") (omega arith) (omega arith) in
    simp length-append (omega arith)

fault-size : (i : ℕ) (words : List ℕ) → i < 2 ^ 64 → length words ≤ 100 → length (fault_line i words) ≤ 125
unfolding fault_line ascii
fault-size i words a l = let x = numbered-length (ascii "part ") i a in simp length-append (omega arith)

pub cut-size : (i : ℕ) → i < 2 ^ 64 → length (cut_line i) ≤ 125
unfolding cut_line ascii
cut-size i a = fault-size i (ascii " is cut\n") a (omega arith)

pub unmarked-size : (i : ℕ) → i < 2 ^ 64 → length (unmarked_line i) ≤ 125
unfolding unmarked_line ascii
unmarked-size i a =
    cond-length 125 (eqb i 0) (ascii "the input does not begin with \"LB\": why takes a packet alone, and hexadecimal text\n")
    (fault_line i (ascii " has no mark\n"))
    (omega arith) (fault-size i (ascii " has no mark\n") a (omega arith))

pub end-size : (i : ℕ) → length (end_line i) ≤ 125
unfolding end_line ascii
end-size i = cond-length 125 (eqb i 0) (ascii "no packets\n") [] (omega arith) (omega arith)

-- What is put as far as there is room stands there whole where it fits.
pub part-is : (front : Front) (i : ℕ) (rest : List ℕ) (p : Pointers) (room : List ℕ) (x : PartLeft) → front_of rest ≡ front
    → x ≡ part_put front i rest p room
    → length (part_text front i rest p) ≤ length room
    → x ≡ part_said i rest p room
unfolding part_said part_by part_put
part-is front i rest p room x f e l =
    rw f (e ∙ ap (λ s. part_left s (passed_by front) (pointers_by front rest p)) (put_front (part_text front i rest p) room l))

-- A packet's text in a room that has the most bytes of one: all of it stands there.
pub record Shows (p : Pointers) (packet : List ℕ) (n : ℕ) (q : Pointers) (room : List ℕ) : Type 0 where
  pub short : n ≤ length room
  pub text : take n room ≡ packet_text p packet
  pub pointers : q ≡ pointers_left (checked_packet p packet) p

module _ (p : Pointers) (packet before after : List ℕ) (l : length (packet_text p packet) ≤ most_text) (b : length before ≡ most_text) where
  pub answered : (r : Result Shown Refusal) → shown_left p r after ≡ shown_packet p packet before → IsOk r
  unfolding shown_left shown_packet
  answered (Ok s) e = refl
  answered (Err x) e =
      let w = rw (le-ltb (length before) (length (packet_text p packet)) (omega arith)) at e in
      let z : rule_number x.rule ≡ 0 = ap (λ (x : PacketLeft). x.number) w in
      let h = rule_number_range x.rule in
      absurd (omega (arith, h, z))

  pub shows : (r : Result Shown Refusal) (s : Shown) → r ≡ Ok s → shown_left p r after ≡ shown_packet p packet before
      → length after ≡ most_text → Shows p packet s.bytes s.pointers after
  unfolding shown_left shown_packet
  shows r s o e a =
      let t = packet_text p packet in
      let w = rw (o, le-ltb (length before) (length t) (omega arith)) at e in
      let bytes : s.bytes ≡ length t = ap (λ (x : PacketLeft). x.bytes) w in
      record {
        short = omega arith;
        text = rw (ap (λ (x : PacketLeft). x.room) w, bytes) (take-append_seam t (drop (length t) before));
        pointers = ap (λ (x : PacketLeft). x.pointers) w;
      }

-- A packet's line and its text, put one behind the other.
pub framed : (i n : ℕ) (rest : List ℕ) (p : Pointers) (room mid after : List ℕ) (at next : ℕ) (q : Pointers)
    → filled at mid ≡ put_at (packet_line i n) 0 room → filled next after ≡ put_at (packet_text p (bytes_in_frame n rest)) at mid
    → q ≡ pointers_left (checked_packet p (bytes_in_frame n rest)) p
    → part_left (filled next after) (Some (4 + n)) q ≡ part_put (Front.frame n) i rest p room
unfolding part_put part_text passed_by pointers_by
framed i n rest p room mid after at next q e f g =
    rw g (ap (λ s. part_left s (Some (4 + n)) (pointers_left (checked_packet p (bytes_in_frame n rest)) p)) (put_then _ _ _ _ e f))

pub framed-fits : (i n : ℕ) (rest : List ℕ) (p : Pointers) → i < 2 ^ 64 → n < 2 ^ 64
    → length (packet_text p (bytes_in_frame n rest)) ≤ most_text → length (part_text (Front.frame n) i rest p) ≤ 69760
unfolding part_text
framed-fits i n rest p a b t = let z = line-size i n a b in simp length-append (omega arith)

-- What the code answers of a part: all of it, no more of the input than there is, and no more bytes than the room has.
abbrev pub Told : ℕ → List ℕ → Pointers → List ℕ → List ℕ → ℕ → Option ℕ → Pointers → Type 0
Told i rest p room after bytes passed q =
    (part_left (filled bytes after) passed q ≡ part_said i rest p room) × ((IfSome passed (λ n. n ≤ length rest)) × (bytes ≤ 69760))

within-room : (text room after : List ℕ) (k : ℕ) → filled k after ≡ put_at text 0 room → length room ≡ 69760 → k ≤ 69760
unfolding put_at
within-room text room after k e l =
    let q : k ≡ min (0 + length text) (length room) = ap (λ (f : Filled). f.next) e in
    omega arith

-- Where no packet stands nothing is passed.
pub ends : (front : Front) (i : ℕ) (rest : List ℕ) (p : Pointers) (room after : List ℕ) (bytes : ℕ) (passed : Option ℕ) (q : Pointers) (k : ℕ)
    → front_of rest ≡ front → passed_by front ≡ None → pointers_by front rest p ≡ p
    → length (part_text front i rest p) ≤ 125 → length room ≡ 69760
    → filled k after ≡ put_at (part_text front i rest p) 0 room
    → (bytes ≡ k) × (passed ≡ None) × (q ≡ p) → Told i rest p room after bytes passed q
unfolding part_put
ends front i rest p room after bytes passed q k f none same small l e (b, z, y) = (
  part-is front i rest p room _ f
      (rw (b, z, y, none, same) (ap (λ s. part_left s None p) e))
      (omega arith),
  (rw z tt, rw b (within-room _ _ _ _ e l)),
)

pub goes_on_lem : (n i : ℕ) (rest : List ℕ) (p : Pointers) (room after : List ℕ) (bytes : ℕ) (passed : Option ℕ) (q : Pointers)
    → front_of rest ≡ Front.frame n → length room ≡ 69760
    → part_left (filled bytes after) passed q ≡ part_put (Front.frame n) i rest p room
    → length (part_text (Front.frame n) i rest p) ≤ 69760 → Told i rest p room after bytes passed q
unfolding part_put passed_by
goes_on_lem n i rest p room after bytes passed q f l e t =
    let w = (whole-frame rest n (sym f)).within in
    let a : passed ≡ Some (4 + n) = ap (λ (x : PartLeft). x.passed) e in (
      part-is (Front.frame n) i rest p room _ f e (omega arith),
      (rw a w, within-room _ _ _ _ (ap (λ (x : PartLeft). x.said) e) l),
    )
