-- The walk's loop: where it stands between two frames.
use Prim.Native.Nat.{ℕ, zero, suc, ◌+◌, ◌-◌, ◌^◌, ◌%◌, ◌≤◌, ◌<◌}
use mathlib.Core.Path.{◌≡◌, refl, sym, ap, ◌∙◌}
use mathlib.Core.List.{List, [], ◌∷◌, ◌++◌, append_assoc, append-nil}
use mathlib.Core.Bool.{Bool, true, false}
use native.Mathlib.Omega.{arith}
use native.Mathlib.Nat.{le_refl}
use lib.ListN.{length, take, drop, length-append, length-drop}
use lib.Seq.{sets, length-sets}
use Rattle.lbp16.proofs.BoolLaws.{and_true}
use Rattle.lbp16.specs.Answer.{Answer}
use Rattle.packet.specs.Rules.{first}
use Rattle.packet.proofs.SliceLaws.{tail-whole}
use Rattle.cue.specs.Output.{framed}
use Rattle.capture.specs.File.{frame_bytes, frame_in}
use Rattle.capture.specs.Datagram.{datagram_in, data_of}
use Rattle.capture.specs.Capture.{Exchange, asked, answered, Told, nothing_told, is_waiting, requests, replies}
use Rattle.capture.specs.Capture.{seen_at, data_at, frame_refusals, with_datagram, Heard, refused, exchanges, heard_from, heard}
use Rattle.capture.specs.Capture.{bytes_of_exchange, recording_of, frame_number, frames_of}
use Rattle.capture.specs.Inside.{progress_of, turn_of, moved_by, Roomy, part_at, part_of, number_part, Fits, said_of, front_over}
use Rattle.capture.specs.Inside.{room_after, numbers_after, Ready}
use Rattle.capture.specs.File.{File}
use Rattle.capture.specs.declared.datagram.Datagram.{Datagram}
use Rattle.capture.specs.Inside.{Progress}
use Rattle.capture.specs.Inside.{Turn}
use Rattle.capture.proofs.DatagramLaws.{frame-within, frame-bytes, Within, whole-within, data_length}
use Rattle.capture.proofs.TurnLaws.{Case, cases, framed-length, exchange_length, frames-length, recording_more, moved-is}
use Rattle.capture.proofs.TurnLaws.{told-request, told-reply, told-passed, not_both}
use Rattle.capture.proofs.WriteLaws.{put-over}
use Rattle.capture.proofs.HeardLaws.{heard-end, heard-refused, heard-next, frame-cut, frame-whole, grows}

-- What is heard of the frames is what is heard from frame k on, and what is told so far stands in the rooms.
pub record Walking (f : File) (frames : List ℕ) (write : Bool) (room₀ numbers₀ : List ℕ) (p : Progress) (k : ℕ) (rest room numbers : List ℕ)
    : Type 0 where
  pub fuel : ℕ
  pub told : Told
  pub same : heard f frames ≡ heard_from fuel f k told rest
  pub enough : length rest ≤ fuel
  pub progress : p ≡ progress_of told
  pub few : k + length rest ≤ 1 + length frames
  pub bytes : p.bytes + length rest ≤ length frames
  pub packets : p.packets + length rest ≤ length frames
  pub room-is : room ≡ front_over write (recording_of told.exchanges) room₀
  pub numbers-is : numbers ≡ front_over write (frames_of told.exchanges) numbers₀
  pub room-same : length room ≡ length room₀
  pub numbers-same : length numbers ≡ length numbers₀
  pub small : length frames < 18446744073709551616

-- nothing is told, and nothing stands there
front-none : (write : Bool) (old : List ℕ) → old ≡ front_over write [] old
unfolding front_over
front-none true old = refl
front-none false old = refl

pub walking_first : (f : File) (frames : List ℕ) (write : Bool) (room numbers : List ℕ) → length frames < 18446744073709551616
    → Walking f frames write room numbers (record { known = false; card = 0; waiting = false; bytes = 0; packets = 0 }) 1 frames room numbers
unfolding heard nothing_told progress_of is_waiting recording_of frames_of
walking_first f frames write room numbers small =
    record {
      fuel = length frames;
      told = nothing_told;
      same = refl;
      enough = le_refl _;
      progress = refl;
      few = le_refl _;
      bytes = omega arith;
      packets = omega arith;
      room-is = front-none write room;
      numbers-is = front-none write numbers;
      room-same = refl;
      numbers-same = refl;
      small = small;
    }

-- the numbers at the end
said-is : (xs : List Exchange) (p : Progress) → p.bytes ≡ length (recording_of xs) → p.packets ≡ length xs
    → Answer.accepted (p.bytes ∷ p.packets ∷ []) ≡ said_of (exchanges xs)
unfolding said_of
said-is xs p a b = rw (a, b) refl

module _ (f : File) (frames : List ℕ) (write : Bool) (room₀ numbers₀ : List ℕ) (p : Progress) (k : ℕ) (rest room numbers : List ℕ)
    (w : Walking f frames write room₀ numbers₀ p k rest room numbers)
    (ready : write ≡ true → Ready (heard f frames) room₀ numbers₀) where
  abbrev xs : List Exchange
  xs = w.told.exchanges

  -- all that the walk says and leaves
  abbrev pub Done : Answer → Type 0
  Done r =
      (r ≡ said_of (heard f frames))
      × ((room ≡ room_after write (heard f frames) room₀) × (numbers ≡ numbers_after write (heard f frames) numbers₀))

  -- a walk that writes ends well
  pub walking_stopped : (n : ℕ) → heard f frames ≡ refused n k → Done (Answer.refused n k)
  unfolding said_of room_after numbers_after front_over
  walking_stopped n e = go write refl
    where
      go : (b : Bool) → write ≡ b → Done (Answer.refused n k)
      go true q = let r = ready q in let z : ◌≡◌ {A = ℕ} 0 1 = cc (e, r.same) in absurd (omega arith)
      go false q = rw e (refl, (rw q at w.room-is, rw q at w.numbers-is))

  pub walking_last : length rest ≡ 0 → Done (Answer.accepted (p.bytes ∷ p.packets ∷ []))
  unfolding room_after numbers_after progress_of
  walking_last z =
      let e : exchanges xs ≡ heard f frames = sym (w.same ∙ heard-end f k w.told rest w.fuel z) in (
        said-is xs p (ap (λ (x : Progress). x.bytes) w.progress) (ap (λ (x : Progress). x.packets) w.progress) ∙ ap said_of e,
        (
          w.room-is ∙ ap (λ (x : Heard). room_after write x room₀) e,
          w.numbers-is ∙ ap (λ (x : Heard). numbers_after write x numbers₀) e,
        ),
      )

  module _ (some : length rest ≡ 0 → ⊥) (n : ℕ) (l : n ≡ frame_bytes f.big rest) where
    -- some fuel is left
    record Fuelled : Type 0 where
      less : ℕ
      is : w.fuel ≡ suc less

    fuelled : Fuelled
    fuelled = go w.fuel refl
      where
        go : (n : ℕ) → w.fuel ≡ n → Fuelled
        go zero e = absurd (omega (arith, w.enough))
        go (suc n) e = record { less = n; is = e }

    heard-here : heard f frames ≡ heard_from (suc fuelled.less) f k w.told rest
    heard-here = rw fuelled.is at w.same

    pub walking_cut : n ≡ 0 → Done (Answer.refused 92 k)
    walking_cut z =
        walking_stopped 92
        (heard-here
        ∙ heard-refused f k w.told rest fuelled.less some 92 (frame-cut f k w.told rest (sym l ∙ z)) (λ q. omega arith))

    module _ (whole : n ≡ 0 → ⊥) where
      pub n_within : (16 ≤ n) × (n ≤ length rest)
      n_within = rw l (frame-within f.big rest (λ z. whole (l ∙ z)))

      abbrev frame : List ℕ
      frame = take (n - 16) (drop 16 rest)

      pub walking_refused : (d : Datagram) → d ≡ datagram_in f.big f.link frame → (m : ℕ) → m ≡ (turn_of p d).number → (m ≡ 0 → ⊥)
          → Done (Answer.refused m k)
      unfolding turn_of progress_of seen_at frame_in
      walking_refused d e m v h =
          let seen : seen_at f rest ≡ d = rw (← l) (sym e) in
          let number : first (frame_refusals f w.told rest) ≡ m =
          frame-whole f k w.told rest (λ z. whole (l ∙ z)) ∙ rw (seen, v, w.progress) refl in
          walking_stopped m (heard-here ∙ heard-refused f k w.told rest fuelled.less some m number h)

      module _ (d : Datagram) (e : d ≡ datagram_in f.big f.link frame) (u : Turn) (v : u ≡ turn_of p d) where
        seen-is : seen_at f rest ≡ d
        unfolding seen_at frame_in
        seen-is = rw (← l) (sym e)

        data_is : data_at f rest ≡ data_of d frame
        unfolding data_at frame_in
        data_is = rw (seen-is, ← l) refl

        number_is : first (frame_refusals f w.told rest) ≡ u.number
        unfolding turn_of progress_of
        number_is = frame-whole f k w.told rest (λ z. whole (l ∙ z)) ∙ rw (seen-is, v, w.progress) refl

        module _ (fine : u.number ≡ 0) (short : d.bytes < 65536) where
          abbrev told₁ : Told
          told₁ = with_datagram k w.told d (data_of d frame)

          heard-on : heard f frames ≡ heard_from fuelled.less f (k + 1) told₁ (drop n rest)
          heard-on =
              heard-here
              ∙ heard-next f k w.told rest fuelled.less some (number_is ∙ fine)
              ∙ rw (seen-is, data_is, ← l) refl

          this : Case w.told d
          this =
              cases w.told d (rw seen-is at (sym (frame-whole f k w.told rest (λ z. whole (l ∙ z))) ∙ number_is ∙ fine))

          frame_is : length frame ≡ n - 16
          unfolding frame_in
          frame_is = frame-bytes n rest n_within.1

          within : d.whole ≡ true → Within d frame
          within h = rw (← e) at (whole-within f.big f.link frame (rw (← e) h))

          moved : moved_by p d u ≡ progress_of told₁
          moved =
              rw (v, w.progress)
              (moved-is k w.told d (data_of d frame) this (λ h. data_length d frame (within h)))

          bytes-is : p.bytes ≡ length (recording_of xs)
          unfolding progress_of
          bytes-is = ap (λ (x : Progress). x.bytes) w.progress

          packets-is : p.packets ≡ length xs
          unfolding progress_of
          packets-is = ap (λ (x : Progress). x.packets) w.progress

          request-is : u.request ≡ requests w.told.known w.told.card d
          unfolding turn_of progress_of
          request-is = rw (v, w.progress) refl

          reply-is : u.reply ≡ replies w.told.known w.told.card d
          unfolding turn_of progress_of
          reply-is = rw (v, w.progress) refl

          -- what is told with this frame finds room too
          told-fits : write ≡ true → (length (recording_of told₁.exchanges) ≤ length room) × (length told₁.exchanges ≤ length numbers)
          told-fits q =
              let r = ready q in
              let g = grows f fuelled.less (k + 1) told₁ (drop n rest) r.xs (sym heard-on ∙ r.same) in
              (omega (arith, g.bytes, r.bytes, w.room-same), omega (arith, g.packets, r.packets, w.numbers-same))

          -- a test is not both
          apart : {A : Type 0} {b : Bool} → b ≡ false → b ≡ true → A
          apart f t = let z : ◌≡◌ {A = ℕ} 0 1 = cc in absurd (omega arith)

          request-room : Case w.told d → write ≡ true → u.request ≡ true
              → (d.at + d.bytes ≤ length frame) × (d.bytes < 65536) × (p.bytes + 8 + d.bytes ≤ length room) × (p.packets < length numbers)
          request-room (Case.asks a h) q r =
              let i = within h in
              let m = recording_more (asked k (data_of d frame)) xs in
              let t = rw (told-request k w.told d (data_of d frame) a) at (told-fits q) in
              let o = exchange_length k (data_of d frame) [] in (
                i.end,
                short,
                omega (arith, bytes-is, o.0, data_length d frame i, t.0),
                omega (arith, packets-is, t.1),
              )
          request-room (Case.answers a g h k₀ packet before x) q r = apart (request-is ∙ a) r
          request-room (Case.other a g) q r = apart (request-is ∙ a) r

          reply-room : Case w.told d → write ≡ true → u.reply ≡ true
              → (d.at + d.bytes ≤ length frame) × (d.bytes < 65536) × (4 ≤ p.bytes) × (p.bytes + d.bytes ≤ length room)
          reply-room (Case.asks a h) q r = apart (reply-is ∙ not_both w.told d a) r
          reply-room (Case.answers a g h k₀ packet before x) q r =
              let i = within h in
              let m = recording_more (answered k₀ packet (data_of d frame)) before in
              let n = recording_more (asked k₀ packet) before in
              let t = rw (told-reply k w.told d (data_of d frame) a g k₀ packet before x) at (told-fits q) in
              let o = exchange_length k₀ packet (data_of d frame) in
              let b : p.bytes ≡ length (recording_of (asked k₀ packet ∷ before)) = rw x at bytes-is in (
                i.end,
                short,
                omega (arith, o.0),
                omega (arith, o.0, o.1, data_length d frame i, t.0),
              )
          reply-room (Case.other a g) q r = apart (reply-is ∙ g) r

          -- there is room for what the datagram adds
          pub walking_fits : Fits write p u d (length frame) (length room) (length numbers)
          walking_fits =
              record {
                request = λ q. let b = and_true write u.request q in request-room this b.0 b.1;
                reply = λ q. let b = and_true write u.reply q in reply-room this b.0 b.1;
              }

          -- its data are no more than the frame
          data_few : d.whole ≡ true → 8 + d.bytes ≤ n
          data_few h = let i = within h in omega (arith, i.front, i.end, frame_is)

          request-whole : Case w.told d → u.request ≡ true → d.whole ≡ true
          request-whole (Case.asks a h) r = h
          request-whole (Case.answers a g h k₀ packet before x) r = h
          request-whole (Case.other a g) r = apart (request-is ∙ a) r

          reply-whole : Case w.told d → u.reply ≡ true → d.whole ≡ true
          reply-whole (Case.asks a h) r = h
          reply-whole (Case.answers a g h k₀ packet before x) r = h
          reply-whole (Case.other a g) r = apart (reply-is ∙ g) r

          pub walking_roomy : Roomy p d u
          walking_roomy =
              let i = n_within in
              record {
                request = λ r. omega (arith, data_few (request-whole this r), w.bytes, w.small, i.0, i.1);
                reply = λ r. omega (arith, data_few (reply-whole this r), w.bytes, w.small, i.0, i.1);
                packets = omega (arith, w.packets, w.small, i.0, i.1);
              }

          -- the counts stay behind the bytes walked over
          moved-few : Case w.told d
              → ((moved_by p d u).bytes + (length rest - n) ≤ length frames) × ((moved_by p d u).packets + (length rest - n) ≤ length frames)
          unfolding moved_by
          moved-few (Case.asks a h) =
              let i = n_within in
              rw (request-is, a) (omega (arith, data_few h, w.bytes, i.0, i.1), omega (arith, w.packets, i.0, i.1))
          moved-few (Case.answers a g h k₀ packet before x) =
              let i = n_within in
              rw (request-is, reply-is, a, g) (omega (arith, data_few h, w.bytes, i.0, i.1), omega (arith, w.packets, i.0, i.1))
          moved-few (Case.other a g) =
              let i = n_within in
              rw (request-is, reply-is, a, g) (omega (arith, w.bytes, i.0, i.1), omega (arith, w.packets, i.0, i.1))

          -- the room with what this datagram adds
          room-more : write ≡ true → Case w.told d
              → sets room (part_at p u) (part_of true u d frame) ≡ front_over true (recording_of told₁.exchanges) room₀
          unfolding part_at part_of front_over recording_of bytes_of_exchange
          room-more q (Case.asks a h) =
              let i = request-room (Case.asks a h) q (request-is ∙ a) in
              let s = data_length d frame (within h) in
              let part = framed (data_of d frame) ++ framed [] in
              let n : length part ≡ 8 + length (data_of d frame) = rw (length-append, framed-length, framed-length) (omega arith) in
              rw (told-request k w.told d (data_of d frame) a, request-is, a)
              (put-over room₀ (recording_of xs) [] part room p.bytes (rw append-nil (rw q at w.room-is)) bytes-is (omega arith)
              (omega (arith, bytes-is, i.2, w.room-same)))
          room-more q (Case.answers a g h k₀ packet before x) =
              let i = reply-room (Case.answers a g h k₀ packet before x) q (reply-is ∙ g) in
              let s = data_length d frame (within h) in
              let base = recording_of before ++ framed packet in
              let b : length base ≡ length (recording_of before) + (4 + length packet) = rw (length-append, framed-length) refl in
              let m = recording_more (asked k₀ packet) before in
              let o = (exchange_length k₀ packet []).0 in
              let e : p.bytes ≡ length (recording_of (asked k₀ packet ∷ before)) = rw x at bytes-is in
              let n = framed-length (data_of d frame) in
              let z = framed-length [] in
              let r : room ≡ (base ++ framed []) ++ drop (length (base ++ framed [])) room₀ =
              rw (q, x) at w.room-is
              ∙ ap (λ (l : List ℕ). l ++ drop (length l) room₀) (sym (append_assoc (recording_of before) (framed packet) (framed []))) in
              rw (told-reply k w.told d (data_of d frame) a g k₀ packet before x, request-is, reply-is, a, g)
              (put-over room₀ base (framed []) (framed (data_of d frame)) room (p.bytes - 4) r (omega arith) (omega arith)
              (omega (arith, i.3, w.room-same))
              ∙ ap (λ (l : List ℕ). l ++ drop (length l) room₀) (append_assoc (recording_of before) (framed packet) (framed (data_of d frame))))
          room-more q (Case.other a g) =
              rw (told-passed k w.told d (data_of d frame) a g, request-is, reply-is, a, g) (rw q at w.room-is)

          numbers_more : write ≡ true → Case w.told d
              → sets numbers p.packets (number_part true u k) ≡ front_over true (frames_of told₁.exchanges) numbers₀
          unfolding number_part front_over frames_of frame_number
          numbers_more q (Case.asks a h) =
              let i = request-room (Case.asks a h) q (request-is ∙ a) in
              let n = frames-length xs in
              rw (told-request k w.told d (data_of d frame) a, request-is, a)
              (put-over numbers₀ (frames_of xs) [] (k % 2 ^ 32 ∷ []) numbers p.packets (rw append-nil (rw q at w.numbers-is))
              (omega (arith, packets-is))
              (omega arith)
              (omega (arith, packets-is, i.3, w.numbers-same)))
          numbers_more q (Case.answers a g h k₀ packet before x) =
              rw (told-reply k w.told d (data_of d frame) a g k₀ packet before x, request-is, a) (rw (q, x) at w.numbers-is)
          numbers_more q (Case.other a g) =
              rw (told-passed k w.told d (data_of d frame) a g, request-is, a) (rw q at w.numbers-is)

          room_next : (b : Bool) → write ≡ b
              → sets room (part_at p u) (part_of write u d frame) ≡ front_over write (recording_of told₁.exchanges) room₀
          unfolding part_of front_over
          room_next true q = rw q (room-more q this)
          room_next false q = rw q (rw q at w.room-is)

          numbers-next : (b : Bool) → write ≡ b
              → sets numbers p.packets (number_part write u k) ≡ front_over write (frames_of told₁.exchanges) numbers₀
          unfolding number_part front_over
          numbers-next true q = rw q (numbers_more q this)
          numbers-next false q = rw q (rw q at w.numbers-is)

          pub walking_next : (room₁ numbers₁ : List ℕ) → room₁ ≡ sets room (part_at p u) (part_of write u d frame)
              → numbers₁ ≡ sets numbers p.packets (number_part write u k) → (q : Progress) → q ≡ moved_by p d u
              → Walking f frames write room₀ numbers₀ q (k + 1) (take (length rest - n) (drop n rest)) room₁ numbers₁
          walking_next room₁ numbers₁ a b q m =
              let i = n_within in
              let c = moved-few this in
              rw tail-whole
              (record {
                fuel = fuelled.less;
                told = told₁;
                same = heard-on;
                enough = rw length-drop (omega (arith, w.enough, fuelled.is, i.0));
                progress = m ∙ moved;
                few = rw length-drop (omega (arith, w.few, i.0, i.1));
                bytes = rw (m, length-drop) c.0;
                packets = rw (m, length-drop) c.1;
                room-is = a ∙ room_next write refl;
                numbers-is = b ∙ numbers-next write refl;
                room-same = rw (a, length-sets) w.room-same;
                numbers-same = rw (b, length-sets) w.numbers-same;
                small = w.small;
              })
