-- One command without increment does equal records, and for reads of one cell it is accepted in eight bytes.
use Prim.Native.Nat.{ℕ, zero, suc, ◌+◌, ◌*◌, ◌≤◌, ◌<◌}
use mathlib.Core.Path.{◌≡◌, refl, ◌∙◌}
use mathlib.Core.List.{List, [], ◌∷◌, ◌++◌, append-nil, map}
use mathlib.Core.Bool.{Bool, false}
use native.Mathlib.Omega.{arith}
use native.Mathlib.Nat.{add-zero, suc-mul, zero-mul}
use lib.ListN.{length, replicate, length-replicate, length-append}
use borrow.Author.Tests.{ltb-false}
use Rattle.lbp16.specs.Space.{Space, row}
use Rattle.lbp16.specs.Word.{word_of}
use Rattle.lbp16.proofs.SpaceLaws.{bytes_le, element_nonzero, element_le}
use Rattle.lbp16.proofs.ListLaws.{none_left}
use Rattle.packet.specs.Bytes.{bytes_of}
use Rattle.packet.specs.Step.{Kind, read, write, infoRead, Step, is_info, is_write, carried, answered, row_by, reply_bytes}
use Rattle.packet.specs.Rules.{past_end, barred, any_step}
use Rattle.packet.specs.Command.{limit}
use Rattle.packet.proofs.StepLaws.{row_plain}
use Rattle.cue.specs.Records.{bad_element}
use Rattle.cue.specs.Packing.{Command, Open, command_fields, bytes_of_command}
use Rattle.cue.specs.Packing.{bytes_of_packet, join_all, element_steps, command_steps, packet_steps}
use Rattle.cue.specs.Packing.{commands_of, joined, started, pack_from, packets}
use Rattle.cue.specs.Output.{framed, output_of}
use Rattle.cue.specs.Compile.{packed, output}
use Rattle.cue.specs.Records.{brief}
use Rattle.cue.proofs.Relations.{Wide, Sound, SoundAll, Mixed, Good}
use Rattle.cue.proofs.RecordLaws.{good-element, records-good}
use Rattle.cue.proofs.PacketLaws.{packet-bytes_append, command-length}
use Rattle.cue.proofs.PackingLaws.{turn-cases, space-again}
use Rattle.cue.proofs.OutputLaws.{Short, apart-output, framed-bytes, joined_bytes}
use Rattle.cue.proofs.ReadBack.{read-from}
use Rattle.tight.specs.Tight.{steps, info_step, packet_does, both, packets_do, accepted, checked}
use Rattle.tight.proofs.PointerLaws.{all-does}
use Rattle.tight.proofs.MixedLaws.{without_mixed}
use Rattle.tight.proofs.CheckedLaws.{let_through, is-accepted}
use Rattle.planner.specs.Planner.{OneCell}
use Rattle.planner.specs.Inside.{still_command, still_fields, framed_command, still_output}

-- its steps are the record, n times
repeated : (n : ℕ) (k : Kind) (s : Space) (a : ℕ) (b : List ℕ)
    → element_steps k s a 0 (replicate n b) ≡ replicate n (record { kind = k; space = s; address = a; bytes = b })
unfolding element_steps
repeated zero k s a b = refl
repeated (suc n) k s a b = rw (add-zero, repeated n k s a b)

still-steps : (n : ℕ) (x : Step) → command_steps (still_command n x) ≡ replicate n x
unfolding command_steps still_command
still-steps n x = repeated n x.kind x.space x.address x.bytes

-- what no record is, none of the n is
never : (f : Step → Bool) (x : Step) (n : ℕ) → f x ≡ false → any_step f (replicate n x) ≡ false
unfolding any_step
never f x zero e = refl
never f x (suc n) e = rw (e, never f x n e)

all-wide : (w : ℕ) (b : List ℕ) (n : ℕ) → length b ≡ w → Wide w (replicate n b)
all-wide w b zero e = Wide.none
all-wide w b (suc n) e = Wide.more e (all-wide w b n e)

-- the reply of n equal records
reply-repeated : (n : ℕ) (x : Step) → reply_bytes (replicate n x) ≡ n * answered x.kind x.space
unfolding reply_bytes
reply-repeated zero x = rw zero-mul
reply-repeated (suc n) x = rw (reply-repeated n x, suc-mul) (omega arith)

-- an element inside its space has an address of 16 bits
address_below : (x : Step) → is_info x.kind ≡ false → past_end x ≡ false → x.address < 65536
unfolding past_end
address_below x p e =
    let r = row_plain x.kind x.space p in
    let inside : x.address + (row x.space).element ≤ (row x.space).bytes =
    rw r at (ltb-false (row_by x.kind x.space).bytes (x.address + (row_by x.kind x.space).element) e) in
    omega (arith, bytes_le x.space, element_nonzero x.space)

-- the kind of a read
kind-read : (k : Kind) → is_write k ≡ false → is_info k ≡ false → k ≡ read
unfolding is_write is_info
kind-read read w i = refl
kind-read write w i = let z : ◌≡◌ {A = ℕ} 0 1 = cc in absurd (omega arith)
kind-read infoRead w i = let z : ◌≡◌ {A = ℕ} 0 1 = cc in absurd (omega arith)

answered_le : (k : Kind) (s : Space) → k ≡ read → answered k s ≤ 4
unfolding answered
answered_le k s e = rw e (element_le s)

empty-bytes : (x : Step) → x.kind ≡ read → length x.bytes ≡ carried x.kind x.space → x.bytes ≡ []
unfolding carried
empty-bytes x k e = none_left x.bytes (e ∙ rw k refl)

join_none : (n : ℕ) → join_all (replicate n []) ≡ []
unfolding join_all
join_none zero = refl
join_none (suc n) = join_none n

scaled : (n a : ℕ) → n ≤ 127 → a ≤ 4 → n * a ≤ 508
scaled n a h k = native.Mathlib.Nat.mul-le-mul h k

-- One record of a good list, and n of it in one command.
module _ (n : ℕ) (x : Step) (some : 2 ≤ n) (few : n ≤ 127) (reads : is_write x.kind ≡ false) (good : bad_element x ≡ false)
    (plain : is_info x.kind ≡ false) (wide : length x.bytes ≡ carried x.kind x.space) where
  is_read : x.kind ≡ read
  is_read = kind-read x.kind reads plain

  still-sound : Sound false (still_command n x)
  unfolding still_command
  still-sound =
      let (present, aligned, inside, allowed, other) = good-element x good in
      let size = length-replicate n x.bytes in
      let all = still-steps n x in
      record {
        plain = plain;
        present = present;
        some = rw size (omega arith);
        few = rw size few;
        wide = all-wide _ _ n wide;
        address = address_below x plain inside;
        aligned = aligned;
        inside = rw all (never past_end x n inside);
        allowed = rw all (never barred x n allowed);
        unlocks = rw reads refl;
      }

  still-bytes : bytes_of_command (still_command n x) ≡ bytes_of 2 (word_of (still_fields n (brief x))) ++ bytes_of 2 x.address
  unfolding bytes_of_command still_command command_fields still_fields brief
  still-bytes =
      rw (
        length-replicate n x.bytes,
        reads,
        space-again x.space,
        empty-bytes x is_read wide,
        join_none n,
        append-nil,
      )

  packet : List ℕ
  packet = bytes_of_packet (still_command n x ∷ [])

  still-packet : packet ≡ bytes_of 2 (word_of (still_fields n (brief x))) ++ bytes_of 2 x.address
  unfolding packet bytes_of_packet
  still-packet = append-nil _ ∙ still-bytes

  still-framed : output_of (packet ∷ []) ≡ still_output n x
  unfolding output_of framed still_output framed_command bytes_of
  still-framed = rw still-packet

  still-length : length packet ≡ 4
  unfolding bytes_of
  still-length = rw still-packet

  still-does : packet_does packet ≡ steps (replicate n x)
  unfolding packet packet_steps info_step
  still-does =
      let all = append-nil (command_steps (still_command n x)) ∙ still-steps n x in
      let four : length (bytes_of_packet (still_command n x ∷ [])) ≤ limit = rw still-length (omega arith) in
      let reply : reply_bytes (packet_steps (still_command n x ∷ [])) ≤ limit =
      rw (all, reply-repeated n x) (omega (arith, scaled n _ few (answered_le x.kind x.space is_read))) in
      let from = read-from (still_command n x ∷ []) (SoundAll.more still-sound SoundAll.none) reply in
      rw all at (all-does (bytes_of_packet (still_command n x ∷ [])) _ four from (rw all (never info_step x n plain)))

-- the packing rule's output is at least its first packet, which has a command and a frame
started-more : (cs : List Command) (x : Step)
    → 4 + length (bytes_of_packet cs) ≤ length (bytes_of_packet (commands_of (started cs x)))
unfolding commands_of started bytes_of_packet join_all
started-more cs x = simp (packet-bytes_append, length-append, command-length) (omega arith)

first-packet : (o : Open) (ys : List Step)
    → 4 + length (bytes_of_packet (commands_of o)) ≤ length (output_of (map bytes_of_packet (pack_from o ys)))
unfolding output_of pack_from
first-packet o [] = rw framed-bytes (omega arith)
first-packet o (x ∷ ys) =
    turn-cases o x
    (λ t. 4 + length (bytes_of_packet (commands_of o)) ≤ length (output_of (map bytes_of_packet (t.closed ++ pack_from t.open? ys))))
    (λ _. omega (arith, first-packet (joined o x) ys, joined_bytes o x))
    (λ _. omega (arith, first-packet (started (commands_of o) x) ys, started-more (commands_of o) x))
    (rw framed-bytes (omega arith))

pub output-least : (x : Step) (ys : List Step) → 8 ≤ length (output (x ∷ ys))
unfolding output packed packets bytes_of_packet
output-least x ys = omega (arith, first-packet (started [] x) ys, started-more [] x)

pub eight-least : (n : ℕ) (x : Step) → 2 ≤ n → 8 ≤ length (output (replicate n x))
eight-least zero x h = absurd (omega arith)
eight-least (suc n) x h = output-least x (replicate n x)

unmixed : (xs : List Step) → Mixed xs xs
unmixed [] = Mixed.none
unmixed (x ∷ xs) = Mixed.same (unmixed xs)

-- what is known of the first of n good records
record FirstGood (x : Step) : Type 0 where
  good : bad_element x ≡ false
  plain : is_info x.kind ≡ false
  wide : length x.bytes ≡ carried x.kind x.space

first_good : (n : ℕ) (x : Step) → 2 ≤ n → Good (replicate n x) → FirstGood x
first_good zero x h g = absurd (omega arith)
first_good (suc n) x h (Good.more b p w g) = record { good = b; plain = p; wide = w }

pub still-size : (n : ℕ) (x : Step) → length (still_output n x) ≡ 8
unfolding still_output framed_command bytes_of
still-size n x = refl

-- The eight bytes are accepted.
pub still-accepted : (list : List ℕ) (n : ℕ) (x : Step) → OneCell list n x → checked list (still_output n x) ≡ accepted 1
unfolding packets_do both
still-accepted list n x o =
    let g = records-good list (replicate n x) o.list-records in
    let f = first_good n x o.some g in
    let p = packet n x o.some o.few o.read f.good f.plain f.wide in
    let l = still-length n x o.some o.few o.read f.good f.plain f.wide in
    let e = still-framed n x o.some o.few o.read f.good f.plain f.wide in
    let d = still-does n x o.some o.few o.read f.good f.plain f.wide in
    let (accepts, set) = let_through (p ∷ []) (replicate n x ++ []) (rw d refl) in
    let short : length (still_output n x) ≤ length (output (replicate n x)) =
    omega (arith, eight-least n x o.some, still-size n x) in
    is-accepted list (still_output n x) 1
    (record {
      xs = replicate n x;
      list-records = o.list-records;
      packets = p ∷ [];
      packet-count = refl;
      sound = rw (← e) (apart-output (p ∷ []) (Short.more (omega arith) Short.none));
      done = replicate n x ++ [];
      accepts = accepts;
      set = set;
      same = rw append-nil (without_mixed (unmixed (replicate n x)) g);
      short = short;
    })
