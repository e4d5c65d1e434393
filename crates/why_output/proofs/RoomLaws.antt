-- What the program writes fits its room: every piece stands there, one behind the other.
use Prim.Native.Nat.{ℕ, zero, suc, ◌+◌, ◌^◌, ◌≤◌, ◌<◌}
use mathlib.Core.Path.{◌≡◌, refl}
use mathlib.Core.List.{List, [], ◌++◌}
use mathlib.Core.Bool.{Bool, true, false, ◌||◌, cond}
use native.Mathlib.Omega.{arith}
use native.Mathlib.Decide.{dec_le}
use borrow.Author.Tests.{ltb-false, lt-ltb, le-ltb}
use lib.Dec.{eqb, ltb}
use lib.ListN.{length, take, replicate, length-append, length-take, length-drop}
use Rattle.lbp16.specs.Space.{store_bytes}
use Rattle.lbp16.specs.Pointer.{fresh}
use Rattle.lbp16.specs.declared.pointer.Pointers.{Pointers}
use Rattle.packet.specs.Command.{limit}
use Rattle.cue.specs.Output.{front_of, bytes_in_frame, behind_frame}
use Rattle.text.specs.Number.{ascii, bytes_of_hex}
use Rattle.text.specs.Line.{numbered, too_long_line}
use Rattle.text.specs.Room.{put_at, text_left}
use Rattle.text.proofs.HexLaws.{bytes-length}
use Rattle.text.proofs.LineLaws.{cond-length, numbered-length}
use Rattle.text.proofs.RoomLaws.{put_front}
use Rattle.reason.specs.Reason.{explained}
use Rattle.reason.specs.declared.Reason.{Reason}
use Rattle.packet_text.specs.Wording.{refused_text, command_text}
use Rattle.packet_text.proofs.SizeLaws.{Small, small, refused-size, command-size}
use Rattle.why_output.specs.Pointed.{pointed_to, uses_pointer}
use Rattle.why_output.specs.Wording.{accepted_text, front_text, said_of, said, state_text, judged_text}
use Rattle.why_output.specs.Packets.{part_at, all_text, shown_bytes, shown_text, fault_text, stop_text}
use Rattle.why_output.specs.Packets.{Part, at_part, packets_from, packets_text}
use Rattle.why_output.specs.Hex.{Hex, hex_of, has_byte}
use Rattle.why_output.specs.Given.{pointers_in}
use Rattle.why_output.specs.Words.{usage_text}
use Rattle.why_output.specs.Whole.{most_bytes, is_framed, framed_hint, hex_hint, bytes_text, hex_text, input_text, whole_text}
use Rattle.why_output.specs.declared.words.Words.{Words}
use Rattle.why_output.specs.declared.packets.Stop.{Stop}
use Rattle.std.specs.Prelude.{is_some, is_none, Ok, Err}
use Rattle.why_output.proofs.HexLaws.{Fits, fits_more, text-fits}

accepted-size : (packet : List ℕ) → length (accepted_text packet) ≤ 22
unfolding accepted_text ascii
accepted-size packet =
    cond-length 22 (eqb (length packet) 0) (ascii "accepted, no commands\n") (ascii "accepted\n") (omega arith) (omega arith)

module _ (packet : List ℕ) (r : Reason) (s : Small packet r) where
  front-size : 3 ≤ r.number → length (front_text packet r.place) ≤ 4481
  unfolding front_text ascii
  front-size three =
      let a = numbered-length (ascii "the ") r.place (omega (arith, s.place)) in
      let b : length (take r.place packet) ≤ 1472 = rw length-take (omega (arith, s.short three)) in
      let c = bytes-length (take r.place packet) in
      cond-length 4481 (eqb r.place 0) [] _ (omega arith) (simp length-append (omega arith))

  said-size : length (said_of packet r) ≤ 9290
  unfolding said_of
  said-size =
      cond-length 9290 (eqb r.number 0) (accepted_text packet)
      (cond (ltb r.number 3) (refused_text r) (refused_text r ++ command_text packet r ++ front_text packet r.place))
      (omega (arith, accepted-size packet)) (go (ltb r.number 3) refl)
    where
      go : (b : Bool) → ltb r.number 3 ≡ b
          → length (cond b (refused_text r) (refused_text r ++ command_text packet r ++ front_text packet r.place)) ≤ 9290
      go true e = omega (arith, refused-size packet r s)
      go false e =
          let three = ltb-false r.number 3 e in
          let a = command-size packet r s three in
          let b = front-size three in
          let c = refused-size packet r s in
          simp length-append (omega arith)

pub said_fits : (packet store : List ℕ) (p : Pointers) → length (said packet store p) ≤ 9290
unfolding said
said_fits packet store p = said-size packet (explained packet store p) (small packet store p)

-- a packet's bytes, few or many
module _ (packet : List ℕ) where
  pub few-shown : length packet ≤ limit → bytes_of_hex packet ≡ shown_bytes packet
  unfolding shown_bytes
  few-shown h = rw (le-ltb limit (length packet) h) refl

  pub few-length : length packet ≤ limit → length (shown_bytes packet) ≤ 4416
  few-length h =
      let e = bytes-length packet in
      rw (← few-shown h) (omega arith)

  pub many-shown : limit < length packet
      → numbered (ascii " ") (length packet) ++ ascii " bytes, the first 16:" ++ bytes_of_hex (take 16 packet) ≡ shown_bytes packet
  unfolding shown_bytes
  many-shown h = rw (lt-ltb limit (length packet) h) refl

  pub many-length : limit < length packet → length packet < 2 ^ 64 → length (shown_bytes packet) ≤ 4416
  unfolding ascii
  many-length h b =
      let n = numbered-length (ascii " ") (length packet) b in
      let t : length (take 16 packet) ≤ 16 = rw length-take (omega arith) in
      let e = bytes-length (take 16 packet) in
      rw (← many-shown h) (simp length-append (omega arith))

  pub shown-length : length packet < 2 ^ 64 → length (shown_bytes packet) ≤ 4416
  shown-length b = go (dec_le (length packet) limit)
    where
      go : Dec (length packet ≤ limit) → length (shown_bytes packet) ≤ 4416
      go (yes h) = few-length h
      go (no h) = many-length (omega arith) b

state-size : (given? used? : Bool) → length (state_text given? used?) ≤ 31
unfolding state_text ascii
state-size given? used? =
    cond-length 31 used? (cond given? (ascii "judged from the pointers given\n") (ascii "judged from a fresh card\n")) []
    (cond-length 31 given? (ascii "judged from the pointers given\n") (ascii "judged from a fresh card\n") (omega arith) (omega arith))
    (omega arith)

judged-size : (given? used? : Bool) (packet store : List ℕ) (p : Pointers) → length (judged_text given? used? packet store p) ≤ 9321
unfolding judged_text
judged-size given? used? packet store p =
    let a = said_fits packet store p in
    let b = state-size given? (used? || uses_pointer packet (explained packet store p)) in
    rw length-append (omega arith)

all-size : (n : ℕ) → n < 2 ^ 64 → length (all_text n) ≤ 39
unfolding all_text ascii
all-size n h =
    let a = numbered-length (ascii "accepted, ") n h in
    let b = cond-length 9 (eqb n 1) (ascii " packet\n") (ascii " packets\n") (omega arith) (omega arith) in
    cond-length 39 (eqb n 0) (ascii "accepted, no packets\n") _ (omega arith) (rw length-append (omega arith))

fault-size : (i : ℕ) (words : List ℕ) → i < 2 ^ 64 → length (fault_text i words) ≤ 25 + length words
unfolding fault_text ascii
fault-size i words h =
    let a = numbered-length (ascii "part ") i h in
    rw length-append (omega arith)

-- what is said where the loop ends
stop-size : (stop : Stop) (given? : Bool) (i : ℕ) (used? : Bool) (rest store : List ℕ) (p : Pointers) → i < 2 ^ 64 → length rest < 2 ^ 64
    → length (stop_text stop given? i used? rest store p) ≤ 13800
unfolding stop_text shown_text ascii bytes_in_frame
stop-size Stop.End given? i used? rest store p h l =
    let a = all-size i h in
    let b = state-size given? used? in
    rw length-append (omega arith)
stop-size Stop.Cut given? i used? rest store p h l =
    let a = fault-size i (ascii " is cut\n") h in
    let b = state-size given? used? in
    rw length-append (omega arith)
stop-size Stop.Unmarked given? i used? rest store p h l =
    let a = fault-size i (ascii " has no mark\n") h in
    let b = state-size given? used? in
    rw length-append (omega arith)
stop-size (Stop.Refused n) given? i used? rest store p h l =
    let few : length (bytes_in_frame n rest) < 2 ^ 64 = rw (length-take, length-drop) (omega arith) in
    let a = numbered-length (ascii "packet ") i h in
    let b = shown-length (bytes_in_frame n rest) few in
    let c = judged-size given? used? (bytes_in_frame n rest) store p in
    simp length-append (omega arith)

part-size : (part : Part) (behind : ℕ → List ℕ) (stopped : Stop → List ℕ) → ((n : ℕ) → length (behind n) ≤ 13800)
    → ((stop : Stop) → length (stopped stop) ≤ 13800) → length (at_part part behind stopped) ≤ 13800
unfolding at_part
part-size (Ok n) behind stopped a b = a n
part-size (Err stop) behind stopped a b = b stop

packets-size : (fuel : ℕ) (given? : Bool) (i : ℕ) (used? : Bool) (rest store : List ℕ) (p : Pointers) → i + fuel < 2 ^ 64
    → length rest < 2 ^ 64 → length (packets_from fuel given? i used? rest store p) ≤ 13800
unfolding packets_from at_part behind_frame
packets-size zero given? i used? rest store p h l = omega arith
packets-size (suc fuel) given? i used? rest store p h l =
    let t = part_at rest store p in
    part-size t.part _ _
    (λ n.
    let packet = bytes_in_frame n rest in
    packets-size fuel given? (1 + i) (used? || pointed_to (length packet) packet) (behind_frame n rest) t.store t.pointers (omega arith)
    (rw length-drop (omega arith)))
    (λ stop. stop-size stop given? i used? rest t.store t.pointers (omega arith) l)

framed-size : (bytes : List ℕ) → length (framed_hint bytes) ≤ 52
unfolding framed_hint ascii
framed-size bytes =
    cond-length 52 (is_framed (front_of bytes)) (ascii "the input looks like packets behind \"LB\": try --lb\n") [] (omega arith) (omega arith)

hint_size : (input : List ℕ) → length (hex_hint input) ≤ 52
unfolding hex_hint ascii
hint_size input =
    cond-length 52 (has_byte (hex_of input)) (ascii "the input looks like hexadecimal text: try --hex\n") [] (omega arith) (omega arith)

bytes-size : (w : Words) (bytes : List ℕ) (p : Pointers) → length bytes ≤ most_bytes → length (bytes_text w bytes p) ≤ 13800
unfolding bytes_text packets_text
bytes-size w bytes p h =
    let a = framed-size bytes in
    cond-length 13800 w.lb _ _
    (packets-size (suc (length bytes)) (is_some w.name) 0 false bytes (replicate store_bytes 0) p (omega arith) (omega arith))
    (rw length-append (omega (arith, judged-size (is_some w.name) false bytes (replicate store_bytes 0) p)))

hex_size : (w : Words) (x : Hex) (p : Pointers) → Fits x most_bytes → length (hex_text w x p) ≤ 13852
unfolding hex_text Fits ascii
hex_size w (Hex.bad k) p h =
    let a = numbered-length (ascii "no hexadecimal digit at byte ") k (omega arith) in
    rw length-append (omega arith)
hex_size w (Hex.bytes read) p h = let a = bytes-size w read p (omega arith) in omega arith

input_size : (w : Words) (input : List ℕ) (p : Pointers) → length (input_text w input p) ≤ 13852
unfolding input_text too_long_line ascii
input_size w input p = go (ltb most_bytes (length input)) refl
  where
    go : (b : Bool) → ltb most_bytes (length input) ≡ b
        → length (cond b too_long_line (cond w.hex (hex_text w (hex_of input) p) (bytes_text w input p ++ hex_hint input))) ≤ 13852
    go true e = omega arith
    go false e =
        let few = ltb-false most_bytes (length input) e in
        let a = bytes-size w input p few in
        let b = hint_size input in
        cond-length 13852 w.hex _ _ (hex_size w (hex_of input) p (fits_more (hex_of input) few (text-fits input)))
        (rw length-append (omega arith))

-- Whatever the program is given, its room has space for all that it writes.
pub whole-fits : (w : Words) (found? : Bool) (file input : List ℕ) → length (whole_text w found? file input) ≤ 16384
unfolding whole_text usage_text ascii
whole-fits w found? file input =
    let a = input_size w input fresh in
    let b = input_size w input (pointers_in file) in
    cond-length 16384 w.wrong _ _ (omega arith)
    (cond-length 16384 (is_none w.name) _ _ (omega arith)
    (cond-length 16384 found? _ _ (cond-length 16384 (eqb (length file) 32) _ _ (omega arith) (omega arith)) (omega arith)))

-- So it stands there whole.
pub whole-left : (w : Words) (found? : Bool) (file input room : List ℕ) → length room ≡ 16384
    → put_at (whole_text w found? file input) 0 room ≡ text_left (whole_text w found? file input) room
whole-left w found? file input room e =
    let l = whole-fits w found? file input in
    put_front (whole_text w found? file input) room (omega arith)
