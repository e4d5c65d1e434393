-- A capture that was written of datagrams in turn gives their recording back.
use Prim.Native.Nat.{ℕ, zero, suc, ◌+◌, ◌-◌, ◌*◌, ◌/◌, ◌%◌, ◌≤◌, ◌<◌}
use mathlib.Core.Path.{◌≡◌, refl, sym, ap, ◌∙◌}
use mathlib.Core.List.{List, [], ◌∷◌, ◌++◌, append_assoc, append-nil}
use mathlib.Core.Bool.{Bool, true, false, not, ◌||◌, ◌&&◌, cond}
use native.Mathlib.Omega.{arith}
use native.Mathlib.Nat.{add-zero, add_assoc, le_refl}
use lib.ListN.{length, take, drop, get_or, length-append}
use lib.Seq.{get_or-append-add, take-append_seam, drop-append_seam, drop-append-add, drop_at, drop-drop, take-length}
use lib.Dec.{eqb}
use borrow.Author.Tests.{eqb-true, eq-eqb, le-leb, le-ltb}
use Rattle.packet.specs.Bytes.{number, bytes_of}
use Rattle.packet.specs.Rules.{first}
use Rattle.packet.proofs.ByteLaws.{number-of_bytes}
use Rattle.cue.specs.Output.{output_of}
use Rattle.capture.specs.File.{byte_at, pair_at, quad_at, low_quad_at, number_in, is_magic, is_link, link_in, file_of, frame_bytes, frame_in}
use Rattle.capture.specs.Datagram.{type_at, ip_at, says_iPv4, header_bytes, fragment_at, is_seen, length_at, is_whole, datagram_in, data_of}
use Rattle.capture.specs.Capture.{card_port, Exchange, asked, answered, Told, nothing_told, requests, replies, is_waiting}
use Rattle.capture.specs.Capture.{datagram_refusals, seen_at, data_at, frame_refusals, with_datagram, exchanges, heard_from, heard}
use Rattle.capture.specs.Capture.{bytes_of_exchange, recording_of, frame_number, frames_of, Captured, captured, written}
use Rattle.capture.specs.Written.{bytes_of_pair, bytes_of_quad, bytes_in, Link, null, ethernet, raw12, raw101, raw228, cooked113, cooked276}
use Rattle.capture.specs.Written.{link_number, link_header, Chosen, Sound, header_front, file_header, datagram_of, frame_written, request_frame, reply_frame}
use Rattle.capture.specs.Written.{Sent, alone, both, frames_written, capture_of, Short, parts_of, recording_sent, frames_sent, read_back, SameRecording}
use Rattle.capture.specs.File.{File}
use Rattle.capture.specs.declared.datagram.Datagram.{Datagram}
use Rattle.capture.proofs.HeardLaws.{heard-end, heard-next, frame-whole}
use Rattle.capture.proofs.TurnLaws.{told-request, told-reply}
use Rattle.capture.proofs.CaptureLaws.{both-fit}

-- two bytes of a number are its remainder
pair_mod : (n : ℕ) → 256 * (n / 256 % 256) + n % 256 ≡ n % 65536
pair_mod n = omega arith

pair-back : (n : ℕ) → n < 65536 → 256 * (n / 256 % 256) + n % 256 ≡ n
pair-back n h = omega arith

quad-back : (n : ℕ) → n < 4294967296 → 65536 * (256 * (n / 16777216 % 256) + n / 65536 % 256) + (256 * (n / 256 % 256) + n % 256) ≡ n
quad-back n h =
    let low = pair_mod n in
    let high : 256 * (n / 16777216 % 256) + n / 65536 % 256 ≡ n / 65536 =
    let q : n / 16777216 ≡ n / 65536 / 256 = omega arith in
    let b : n / 65536 < 65536 = omega arith in
    rw q (pair-back (n / 65536) b) in
    omega arith

-- a number of the file, read where it was written behind k bytes
number-back : (big : Bool) (front more : List ℕ) (n : ℕ) → n < 4294967296
    → number_in big (front ++ (bytes_in big n ++ more)) (length front) ≡ n
unfolding number_in quad_at pair_at low_quad_at byte_at bytes_in bytes_of_quad bytes_of number
number-back true front more n h =
    let k = length front in
    let four = bytes_of_quad n ++ more in
    let g : (j : ℕ) → get_or (front ++ four) (k + j) 0 ≡ get_or four j 0 = λ j. get_or-append-add front four j 0 in
    let z = rw add-zero at (g 0) in
    rw (z, g 1, add_assoc k 2 1, g 2, g 3) (quad-back n h)
number-back false front more n h =
    let k = length front in
    let four = bytes_of 4 n ++ more in
    let g : (j : ℕ) → get_or (front ++ four) (k + j) 0 ≡ get_or four j 0 = λ j. get_or-append-add front four j 0 in
    let z = rw add-zero at (g 0) in
    rw (z, g 1, g 2, g 3) (omega (arith, number-of_bytes 4 n h))

-- an IPv4 packet behind a link header
module _ (hdr : List ℕ) (s d sp dp : ℕ) (bytes : List ℕ) where
  abbrev u : List ℕ
  u = datagram_of s d sp dp bytes

  abbrev frame : List ℕ
  frame = hdr ++ u

  abbrev ip : ℕ
  ip = length hdr

  byte : (j : ℕ) → byte_at frame (ip + j) ≡ get_or u j 0
  unfolding byte_at
  byte j = get_or-append-add hdr u j 0

  pair : (j : ℕ) → pair_at frame (ip + j) ≡ 256 * get_or u j 0 + get_or u (j + 1) 0
  unfolding pair_at
  pair j = rw (add_assoc ip j 1, byte j, byte (j + 1)) refl

  quad : (j : ℕ) → quad_at frame (ip + j) ≡ 65536 * (256 * get_or u j 0 + get_or u (j + 1) 0) + (256 * get_or u (j + 2) 0 + get_or u (j + 2 + 1) 0)
  unfolding quad_at
  quad j = rw (add_assoc ip j 2, pair j, pair (j + 2)) refl

  first_byte : byte_at frame ip ≡ 0x45
  unfolding datagram_of
  first_byte = rw add-zero at (byte 0)

  header_is : header_bytes frame ip ≡ 20
  unfolding header_bytes
  header_is = rw first_byte refl

  fragment_is : fragment_at frame ip ≡ 0
  unfolding fragment_at datagram_of bytes_of_pair
  fragment_is = pair 6

  frame-length : length frame ≡ ip + (28 + length bytes)
  unfolding datagram_of bytes_of_pair bytes_of_quad
  frame-length = omega (arith, length-append hdr u)

  seen-is : is_seen frame ip ≡ true
  unfolding is_seen datagram_of bytes_of_pair
  seen-is =
      rw (first_byte, byte 9, fragment_is, header_is, le-leb (ip + 20 + 4) (length frame) (omega (arith, frame-length))) refl

  module _ (few : length bytes ≤ 65507) where
    total-is : pair_at frame (ip + 2) ≡ 28 + length bytes
    unfolding datagram_of bytes_of_pair
    total-is = pair 2 ∙ pair-back (28 + length bytes) (omega arith)

    length-is : length_at frame ip ≡ 8 + length bytes
    unfolding length_at datagram_of bytes_of_pair bytes_of_quad
    length-is =
        let e : ip + 20 + 4 ≡ ip + 24 = omega arith in
        rw (header_is, e) (pair 24 ∙ pair-back (8 + length bytes) (omega arith))

    whole_is : is_whole frame ip ≡ true
    unfolding is_whole
    whole_is =
        rw (
          fragment_is,
          length-is,
          header_is,
          total-is,
          le-leb 8 (8 + length bytes) (omega arith),
          eq-eqb (28 + length bytes) (20 + (8 + length bytes)) (omega arith),
          le-leb (ip + 20 + (8 + length bytes)) (length frame) (omega (arith, frame-length)),
        )
        refl

    pub datagram_is : (big : Bool) (link : ℕ) → ip_at link frame ≡ ip → says_iPv4 big link frame ≡ true → s < 4294967296
        → d < 4294967296 → sp < 65536 → dp < 65536
        → datagram_in big link frame
        ≡ record {
          seen = true;
          whole = true;
          source = s;
          destination = d;
          source_port = sp;
          destination_port = dp;
          at = ip + 28;
          bytes = length bytes;
        }
    unfolding datagram_in datagram_of bytes_of_pair bytes_of_quad
    datagram_is big link e says hs hd hsp hdp =
        let a : ip + 20 + 2 ≡ ip + 22 = omega arith in
        let b : ip + 20 + 8 ≡ ip + 28 = omega arith in
        let n : 8 + length bytes - 8 ≡ length bytes = omega arith in
        rw (
          e,
          says,
          seen-is,
          whole_is,
          header_is,
          quad 12 ∙ quad-back s hs,
          quad 16 ∙ quad-back d hd,
          pair 20 ∙ pair-back sp hsp,
          a,
          pair 22 ∙ pair-back dp hdp,
          b,
          length-is,
          n,
        )
        refl

  pub data_back : take (length bytes) (drop (ip + 28) frame) ≡ bytes
  unfolding datagram_of bytes_of_pair bytes_of_quad
  data_back = rw (drop-append-add hdr u 28) (take-length bytes)

-- every link header says that an IPv4 packet follows, and where
pub link-ip : (big : Bool) (l : Link) (u : List ℕ) → ip_at (link_number l) (link_header big l ++ u) ≡ length (link_header big l)
unfolding ip_at type_at link_number link_header pair_at byte_at bytes_in bytes_of_quad bytes_of
link-ip true null u = refl
link-ip false null u = refl
link-ip big ethernet u = refl
link-ip big raw12 u = refl
link-ip big raw101 u = refl
link-ip big raw228 u = refl
link-ip big cooked113 u = refl
link-ip big cooked276 u = refl

pub link-says : (big : Bool) (l : Link) (u : List ℕ) → says_iPv4 big (link_number l) (link_header big l ++ u) ≡ true
unfolding says_iPv4 type_at link_number link_header number_in quad_at low_quad_at pair_at byte_at bytes_in bytes_of_quad bytes_of
link-says true null u = refl
link-says false null u = refl
link-says big ethernet u = refl
link-says big raw12 u = refl
link-says big raw101 u = refl
link-says big raw228 u = refl
link-says big cooked113 u = refl
link-says big cooked276 u = refl

link-length : (big : Bool) (l : Link) → length (link_header big l) ≤ 20
unfolding link_header bytes_in bytes_of_quad bytes_of
link-length true null = omega arith
link-length false null = omega arith
link-length big ethernet = omega arith
link-length big raw12 = omega arith
link-length big raw101 = omega arith
link-length big raw228 = omega arith
link-length big cooked113 = omega arith
link-length big cooked276 = omega arith

link-small : (l : Link) → link_number l < 65536
unfolding link_number
link-small null = omega arith
link-small ethernet = omega arith
link-small raw12 = omega arith
link-small raw101 = omega arith
link-small raw228 = omega arith
link-small cooked113 = omega arith
link-small cooked276 = omega arith

link-read : (l : Link) → is_link (link_number l) ≡ true
unfolding link_number is_link
link-read null = refl
link-read ethernet = refl
link-read raw12 = refl
link-read raw101 = refl
link-read raw228 = refl
link-read cooked113 = refl
link-read cooked276 = refl

four : (big : Bool) (n : ℕ) → length (bytes_in big n) ≡ 4
unfolding bytes_in bytes_of_quad bytes_of
four true n = refl
four false n = refl

-- a frame before other bytes
module _ (big : Bool) (body more : List ℕ) (few : length body < 4294967296) where
  abbrev head : List ℕ
  head = (0 ∷ 0 ∷ 0 ∷ 0 ∷ 0 ∷ 0 ∷ 0 ∷ 0 ∷ []) ++ bytes_in big (length body) ++ bytes_in big (length body)

  abbrev rest : List ℕ
  rest = frame_written big body ++ more

  head-length : length head ≡ 16
  head-length = rw (length-append, length-append, four) refl

  rest-is : rest ≡ head ++ (body ++ more)
  unfolding frame_written
  rest-is = append_assoc head body more

  rest-length : length rest ≡ 16 + length body + length more
  rest-length = omega (arith, ap length rest-is, length-append head (body ++ more), length-append body more, head-length)

  captured-is : number_in big rest 8 ≡ length body
  captured-is =
      let n : List ℕ = bytes_in big (length body) in
      let zeros : List ℕ = 0 ∷ 0 ∷ 0 ∷ 0 ∷ 0 ∷ 0 ∷ 0 ∷ 0 ∷ [] in
      let e : rest ≡ zeros ++ (n ++ (n ++ (body ++ more))) =
      rest-is ∙ append_assoc (zeros ++ n) n (body ++ more) ∙ append_assoc zeros n (n ++ (body ++ more)) in
      rw e (number-back big zeros (n ++ (body ++ more)) (length body) few)

  pub bytes-is : frame_bytes big rest ≡ 16 + length body
  unfolding frame_bytes
  bytes-is = rw (captured-is, le-ltb (length rest) (16 + length body) (omega (arith, rest-length))) refl

  pub body_is : frame_in (frame_bytes big rest) rest ≡ body
  unfolding frame_in
  body_is =
      let n : 16 + length body - 16 ≡ length body = omega arith in
      rw (bytes-is, n, rest-is, drop_at head (body ++ more) 16 head-length) (take-append_seam body more)

  pub behind-is : drop (frame_bytes big rest) rest ≡ more
  behind-is =
      rw (bytes-is, rest-is)
      (sym (drop-drop (length body) 16 (head ++ (body ++ more)))
      ∙ rw (drop_at head (body ++ more) 16 head-length) (drop-append_seam body more))

-- what is read of a datagram that was written
abbrev found : Chosen → ℕ → ℕ → ℕ → ℕ → List ℕ → Datagram
found c s d sp dp bytes =
    record {
      seen = true;
      whole = true;
      source = s;
      destination = d;
      source_port = sp;
      destination_port = dp;
      at = length (link_header c.big c.link) + 28;
      bytes = length bytes;
    }

abbrev file_written : Chosen → File
file_written c = record { good = true; big = c.big; link = link_number c.link }

module _ (c : Chosen) (s d sp dp : ℕ) (bytes more : List ℕ) (few : length bytes ≤ 65507) (hs : s < 4294967296) (hd : d < 4294967296)
    (hsp : sp < 65536) (hdp : dp < 65536) where
  abbrev hdr : List ℕ
  hdr = link_header c.big c.link

  abbrev body : List ℕ
  body = hdr ++ datagram_of s d sp dp bytes

  abbrev f : File
  f = file_written c

  abbrev here : List ℕ
  here = frame_written c.big body ++ more

  small : length body < 4294967296
  small = omega (arith, frame-length hdr s d sp dp bytes, link-length c.big c.link)

  pub seen-at : seen_at f here ≡ found c s d sp dp bytes
  unfolding seen_at
  seen-at =
      rw (body_is c.big body more small)
      (datagram_is hdr s d sp dp bytes few c.big (link_number c.link) (link-ip c.big c.link _) (link-says c.big c.link _) hs hd hsp hdp)

  pub data_at_lem : data_at f here ≡ bytes
  unfolding data_at data_of
  data_at_lem = rw (seen-at, body_is c.big body more small) (data_back hdr s d sp dp bytes)

  -- a frame that is not refused is passed
  pub passed_on : (fuel k : ℕ) (t : Told) → first (datagram_refusals t.known t.card (is_waiting t.exchanges) (found c s d sp dp bytes)) ≡ 0
      → heard_from (suc fuel) f k t here ≡ heard_from fuel f (k + 1) (with_datagram k t (found c s d sp dp bytes) bytes) more
  passed_on fuel k t e =
      let n = bytes-is c.big body more small in
      let r = rest-length c.big body more small in
      let ok : first (frame_refusals f t here) ≡ 0 = frame-whole f k t here (λ z. omega arith) ∙ rw seen-at e in
      heard-next f k t here fuel (λ z. omega arith) ok ∙ rw (seen-at, data_at_lem, behind-is c.big body more small) refl

-- the card that is told is the one that the capture is of
abbrev Knows : Chosen → Told → Type 0
Knows c t = (not t.known || eqb c.card t.card) ≡ true

-- what is told with a capture's packets
unfoldable numbered : ℕ → List Sent → List Exchange → List Exchange
numbered k [] xs = xs
numbered k (alone packet ∷ more) xs = numbered (k + 1) more (asked k packet ∷ xs)
numbered k (both packet reply ∷ more) xs = numbered (k + 1 + 1) more (answered k packet reply ∷ xs)

module _ (c : Chosen) (ok : Sound c) where
  abbrev told : List Exchange → Told
  told xs = record { known = true; card = c.card; exchanges = xs }

  knows : (xs : List Exchange) → Knows c (told xs)
  knows xs = eq-eqb c.card c.card refl

  is-request : (packet : List ℕ) (t : Told) → Knows c t
      → requests t.known t.card (found c c.other c.card c.port card_port packet) ≡ true
  unfolding requests
  is-request packet t h = h

  request-next : (packet more : List ℕ) → length packet ≤ 65507 → (fuel k : ℕ) (t : Told) → Knows c t
      → heard_from (suc fuel) (file_written c) k t (request_frame c packet ++ more)
      ≡ heard_from fuel (file_written c) (k + 1) (told (asked k packet ∷ t.exchanges)) more
  unfolding request_frame datagram_refusals first replies
  request-next packet more few fuel k t h =
      let d = found c c.other c.card c.port card_port packet in
      let q : requests t.known t.card d ≡ true = is-request packet t h in
      passed_on c c.other c.card c.port card_port packet more few ok.other ok.card ok.port (omega arith) fuel k t (rw q refl)
      ∙ rw (told-request k t d packet q) refl

  module _ (packet reply more : List ℕ) (few : length reply ≤ 65507) (k₀ : ℕ) (before : List Exchange) where
    abbrev back : Datagram
    back = found c c.card c.other card_port c.port reply

    no_request : requests true c.card back ≡ false
    unfolding requests
    no_request = go (eqb c.port card_port) (eqb c.other c.card) refl refl
      where
        go : (a b : Bool) → eqb c.port card_port ≡ a → eqb c.other c.card ≡ b → (true && a && (not true || b)) ≡ false
        go true true p q = absurd (ok.apart (eqb-true _ _ q) (eqb-true _ _ p))
        go true false p q = refl
        go false b p q = refl

    is-reply : replies true c.card back ≡ true
    unfolding replies
    is-reply = rw (no_request, eq-eqb c.card c.card refl) refl

    reply-next : (fuel k : ℕ)
        → heard_from (suc fuel) (file_written c) k (told (asked k₀ packet ∷ before)) (reply_frame c reply ++ more)
        ≡ heard_from fuel (file_written c) (k + 1) (told (answered k₀ packet reply ∷ before)) more
    unfolding reply_frame datagram_refusals first is_waiting
    reply-next fuel k =
        let t = told (asked k₀ packet ∷ before) in
        passed_on c c.card c.other card_port c.port reply more few ok.card ok.other (omega arith) ok.port fuel k t
        (rw (no_request, is-reply) refl)
        ∙ rw (told-reply k t back reply no_request is-reply k₀ packet before refl) refl

  -- each frame takes bytes
  request-bytes : (packet more : List ℕ) → length packet ≤ 65507 → 16 + length more ≤ length (request_frame c packet ++ more)
  unfolding request_frame
  request-bytes packet more few =
      omega (
        arith,
        rest-length c.big (body c c.other c.card c.port card_port packet more few ok.other ok.card ok.port (omega arith)) more
            (small c c.other c.card c.port card_port packet more few ok.other ok.card ok.port (omega arith)),
      )

  reply-bytes : (reply more : List ℕ) → length reply ≤ 65507 → 16 + length more ≤ length (reply_frame c reply ++ more)
  unfolding reply_frame
  reply-bytes reply more few =
      omega (
        arith,
        rest-length c.big (body c c.card c.other card_port c.port reply more few ok.card ok.other (omega arith) ok.port) more
            (small c c.card c.other card_port c.port reply more few ok.card ok.other (omega arith) ok.port),
      )

  heard-written : {show : List Sent} → Short show → (fuel k : ℕ) (t : Told) → Knows c t → length (frames_written c show) ≤ fuel
      → heard_from fuel (file_written c) k t (frames_written c show) ≡ exchanges (numbered k show t.exchanges)
  unfolding frames_written numbered
  heard-written Short.none fuel k t h l = heard-end (file_written c) k t [] fuel refl
  heard-written (Short.one {packet} {more} few s) zero k t h l =
      absurd (omega (arith, request-bytes packet (frames_written c more) few))
  heard-written (Short.one {packet} {more} few s) (suc fuel) k t h l =
      request-next packet (frames_written c more) few fuel k t h
      ∙ heard-written s fuel (k + 1) (told (asked k packet ∷ t.exchanges)) (knows (asked k packet ∷ t.exchanges))
      (omega (arith, request-bytes packet (frames_written c more) few))
  heard-written (Short.two {packet} {reply} {more} few less s) zero k t h l =
      absurd (omega (arith, request-bytes packet (reply_frame c reply ++ frames_written c more) few))
  heard-written (Short.two {packet} {reply} {more} few less s) (suc zero) k t h l =
      absurd
      (omega (
        arith,
        request-bytes packet (reply_frame c reply ++ frames_written c more) few,
        reply-bytes reply (frames_written c more) less,
      ))
  heard-written (Short.two {packet} {reply} {more} few less s) (suc (suc fuel)) k t h l =
      request-next packet (reply_frame c reply ++ frames_written c more) few (suc fuel) k t h
      ∙ reply-next packet reply (frames_written c more) less k t.exchanges fuel (k + 1)
      ∙ heard-written s fuel (k + 1 + 1) (told (answered k packet reply ∷ t.exchanges)) (knows (answered k packet reply ∷ t.exchanges))
      (omega (
        arith,
        request-bytes packet (reply_frame c reply ++ frames_written c more) few,
        reply-bytes reply (frames_written c more) less,
      ))

-- the file's header, before other bytes
module _ (big nano : Bool) (l : Link) (more : List ℕ) where
  abbrev file : List ℕ
  file = file_header big nano l ++ more

  twenty : length (header_front big nano) ≡ 20
  unfolding header_front
  twenty = rw (length-append, length-append, length-append, four, four) (go big)
    where
      go : (big : Bool) → 4 + length (cond {A = List ℕ} big (0 ∷ 2 ∷ 0 ∷ 4 ∷ []) (2 ∷ 0 ∷ 4 ∷ 0 ∷ [])) + 8 + 4 ≡ 20
      go true = refl
      go false = refl

  header-length : length (file_header big nano l) ≡ 24
  unfolding file_header
  header-length = rw (length-append, twenty, four) refl

  pub frames-behind : drop 24 file ≡ more
  frames-behind = drop_at (file_header big nano l) more 24 header-length

  link-back : link_in big file ≡ link_number l
  unfolding link_in file_header
  link-back =
      let small = link-small l in
      let n = rw twenty at (number-back big (header_front big nano) more (link_number l) (omega arith)) in
      rw (append_assoc, n) (omega arith)

magic_big : (big nano : Bool) (l : Link) (more : List ℕ) → is_magic (number_in true (file_header big nano l ++ more) 0) ≡ big
unfolding is_magic number_in quad_at pair_at byte_at file_header header_front bytes_in bytes_of_quad bytes_of
magic_big true true l more = refl
magic_big true false l more = refl
magic_big false true l more = refl
magic_big false false l more = refl

magic_any : (big nano : Bool) (l : Link) (more : List ℕ) → (big || is_magic (number_in false (file_header big nano l ++ more) 0)) ≡ true
unfolding is_magic number_in low_quad_at byte_at file_header header_front bytes_in bytes_of_quad bytes_of
magic_any true nano l more = refl
magic_any false true l more = refl
magic_any false false l more = refl

file-back : (big nano : Bool) (l : Link) (more : List ℕ)
    → file_of (file_header big nano l ++ more) ≡ record { good = true; big = big; link = link_number l }
unfolding file_of
file-back big nano l more =
    let n : length (file_header big nano l ++ more) ≡ 24 + length more =
    length-append (file_header big nano l) more ∙ rw (header-length big nano l more) refl in
    rw (
      magic_big big nano l more,
      magic_any big nano l more,
      link-back big nano l more,
      link-read l,
      le-leb 24 (length (file_header big nano l ++ more)) (omega arith),
    )
    refl

-- the recording of what is told
recording_back : (show : List Sent) (k : ℕ) (xs : List Exchange) → recording_of (numbered k show xs) ≡ recording_of xs ++ recording_sent show
unfolding numbered recording_sent parts_of output_of recording_of bytes_of_exchange
recording_back [] k xs = sym (append-nil (recording_of xs))
recording_back (alone packet ∷ more) k xs = rw (recording_back more (k + 1) (asked k packet ∷ xs), append_assoc, append_assoc) refl
recording_back (both packet reply ∷ more) k xs =
    rw (recording_back more (k + 1 + 1) (answered k packet reply ∷ xs), append_assoc, append_assoc) refl

count-back : (show : List Sent) (k : ℕ) (xs : List Exchange) → length (numbered k show xs) ≡ length xs + length show
unfolding numbered
count-back [] k xs = sym (add-zero (length xs))
count-back (alone packet ∷ more) k xs = rw (count-back more (k + 1) (asked k packet ∷ xs)) (omega arith)
count-back (both packet reply ∷ more) k xs = rw (count-back more (k + 1 + 1) (answered k packet reply ∷ xs)) (omega arith)

frames-back : (show : List Sent) (k : ℕ) (xs : List Exchange) → frames_of (numbered k show xs) ≡ frames_of xs ++ frames_sent k show
unfolding numbered frames_sent frames_of frame_number
frames-back [] k xs = sym (append-nil (frames_of xs))
frames-back (alone packet ∷ more) k xs = rw (frames-back more (k + 1) (asked k packet ∷ xs), append_assoc) refl
frames-back (both packet reply ∷ more) k xs = rw (frames-back more (k + 1 + 1) (answered k packet reply ∷ xs), append_assoc) refl

-- A capture that was written of datagrams in turn is accepted, and gives their recording back.
pub same_recording : (capture room frames : List ℕ) → SameRecording capture room frames (captured capture room frames)
unfolding SameRecording capture_of captured heard nothing_told recording_of frames_of read_back
same_recording capture room frames show x =
    let c = x.chosen in
    let all = frames_written c show in
    let xs = numbered 1 show [] in
    let r : recording_of xs ≡ recording_sent show = recording_back show 1 [] in
    let n : length xs ≡ length show = omega (arith, count-back show 1 []) in
    let h = heard-written c x.sound x.short (length all) 1 nothing_told refl (le_refl _) in
    let w : captured capture room frames ≡ written (exchanges xs) room frames =
    rw (x.same, file-back c.big c.nano c.link all, frames-behind c.big c.nano c.link all, h) refl in
    w ∙ both-fit xs room frames (rw r x.bytes) (rw n x.packets) ∙ rw (r, n, frames-back show 1 []) refl

-- what is promised of every reading
pub promised : (capture room frames : List ℕ) (l : Captured) → l ≡ captured capture room frames
    → (l ≡ captured capture room frames) × SameRecording capture room frames l
promised capture room frames l e = (e, rw e (same_recording capture room frames))
