-- Laws of the output: taking it apart gives the packets again, and it has at most twice the list's bytes.
use Prim.Native.Nat.{ℕ, zero, suc, ◌+◌, ◌*◌, ◌≤◌, ◌<◌}
use mathlib.Core.Path.{◌≡◌, refl, ◌∙◌}
use mathlib.Core.List.{List, [], ◌∷◌, ◌++◌, map}
use native.Mathlib.Omega.{arith}
use lib.ListN.{length, take, length-append}
use lib.Seq.{take-append_seam, drop-append_seam, drop-append-add}
use borrow.Author.Tests.{le-ltb, eq-eqb, ne_eqb}
use Rattle.packet.specs.Bytes.{number, bytes_of}
use Rattle.packet.specs.Step.{Step}
use Rattle.packet.proofs.StepLaws.{carried_le}
use Rattle.cue.specs.Records.{records, records_of, record_bytes}
use Rattle.cue.specs.Packing.{Command, join_all, bytes_of_packet, Open, commands_of, joined, started, pack_from, packets}
use Rattle.cue.specs.Output.{frame_mark, framed, output_of, frames, with_frame, length_at, Front, front_of, bytes_in_frame}
use Rattle.cue.specs.Output.{behind_frame, with_front, apart_from, apart}
use Rattle.cue.specs.Compile.{packed, output}
use Rattle.cue.proofs.Relations.{Good}
use Rattle.cue.proofs.RecordLaws.{list_bytes, records-good, list-bytes}
use Rattle.cue.proofs.PacketLaws.{packet-bytes_append, join_append, command-length}
use Rattle.cue.proofs.PackingLaws.{Packed, packing_keeps, turn-cases, started-bytes, record_bytes_le}

-- packets whose lengths can be written in two bytes
pub data Short : List (List ℕ) → Type 0 where
  none : Short []
  more : {p : List ℕ} {ps : List (List ℕ)} → length p < 65536 → Short ps → Short (p ∷ ps)

-- a whole frame at the front
pub front-whole : (rest : List ℕ) → number (take 2 rest) ≡ frame_mark → 4 + length_at rest ≤ length rest
    → front_of rest ≡ Front.frame (length_at rest)
unfolding front_of
front-whole rest mark whole =
    rw (
      ne_eqb (length rest) 0 (λ e. omega arith),
      le-ltb (length rest) 2 (omega arith),
      eq-eqb _ _ mark,
      le-ltb (length rest) (4 + length_at rest) whole,
    )
    refl

-- mark and length have four bytes
pub framed-bytes : (p tail : List ℕ) → length (framed p ++ tail) ≡ 4 + length p + length tail
unfolding framed bytes_of
framed-bytes p tail = simp length-append (omega arith)

-- a packet with its frame, before other bytes
module _ (p tail : List ℕ) (h : length p < 65536) where
  framed-length : length_at (framed p ++ tail) ≡ length p
  unfolding length_at framed number bytes_of
  framed-length = omega arith

  framed-mark : number (take 2 (framed p ++ tail)) ≡ frame_mark
  unfolding framed number bytes_of
  framed-mark = refl

  pub framed-front : front_of (framed p ++ tail) ≡ Front.frame (length p)
  framed-front =
      rw framed-length at (front-whole (framed p ++ tail) framed-mark (rw framed-length (rw framed-bytes (omega arith))))

  pub framed-part : bytes_in_frame (length p) (framed p ++ tail) ≡ p
  unfolding bytes_in_frame framed bytes_of
  framed-part = take-append_seam p tail

  pub framed-behind : behind_frame (length p) (framed p ++ tail) ≡ tail
  unfolding behind_frame framed bytes_of
  framed-behind =
      let frame = bytes_of 2 frame_mark ++ bytes_of 2 (length p) in
      drop-append-add frame (p ++ tail) (length p) ∙ drop-append_seam p tail

  framed-apart : (fuel : ℕ) → apart_from (suc fuel) (framed p ++ tail) ≡ with_frame p (apart_from fuel tail)
  unfolding apart_from with_front
  framed-apart fuel = rw (framed-front, framed-length, framed-part, framed-behind) refl

apart_from_lem : (fuel : ℕ) {ps : List (List ℕ)} → Short ps → length (output_of ps) ≤ fuel → apart_from fuel (output_of ps) ≡ frames ps
unfolding output_of with_frame apart_from with_front front_of
apart_from_lem zero Short.none h = refl
apart_from_lem (suc fuel) Short.none h = refl
apart_from_lem zero (Short.more {p} {ps} b s) h = absurd (omega (arith, framed-bytes p (output_of ps)))
apart_from_lem (suc fuel) (Short.more {p} {ps} b s) h =
    rw (framed-apart p (output_of ps) b fuel, apart_from_lem fuel s (omega (arith, framed-bytes p (output_of ps))))

-- An output taken apart is its packets.
pub apart-output : (ps : List (List ℕ)) → Short ps → apart (output_of ps) ≡ frames ps
unfolding apart
apart-output ps s = apart_from_lem _ s (omega arith)

packed-short : {css : List (List Command)} {xs : List Step} → Packed css xs → Short (map bytes_of_packet css)
packed-short Packed.none = Short.none
packed-short (Packed.more {cs} k p) = Short.more {p = bytes_of_packet cs} (omega (arith, k.short)) (packed-short p)

-- The packing rule's packets are short.
pub packets-short : (xs : List Step) → Good xs → Short (packed xs)
unfolding packed
packets-short xs g = packed-short (packing_keeps xs g)

-- a record that joins adds its own bytes only
pub joined_bytes : (o : Open) (x : Step)
    → length (bytes_of_packet (commands_of (joined o x))) ≡ length (bytes_of_packet (commands_of o)) + length x.bytes
unfolding commands_of joined bytes_of_packet join_all
joined_bytes o x = simp (packet-bytes_append, length-append, command-length, join_append) (omega arith)

-- the bytes from the open packet's frame on
output-from : (o : Open) {ys : List Step} → Good ys
    → length (output_of (map bytes_of_packet (pack_from o ys))) ≤ 4 + length (bytes_of_packet (commands_of o)) + 2 * list_bytes ys
unfolding output_of pack_from list_bytes bytes_of_packet
output-from o Good.none = rw framed-bytes (omega arith)
output-from o (Good.more {x} {xs = ys} bad p w g) =
    let few = carried_le x.kind x.space in
    turn-cases o x
    (λ t. length (output_of (map bytes_of_packet (t.closed ++ pack_from t.open? ys)))
    ≤ 4 + length (bytes_of_packet (commands_of o)) + 2 * (record_bytes x.kind + list_bytes ys))
    (λ _. omega (arith, output-from (joined o x) g, joined_bytes o x, record_bytes_le x.kind))
    (λ _. omega (arith, output-from (started (commands_of o) x) g, started-bytes (commands_of o) x w))
    (rw framed-bytes (omega (arith, output-from (started [] x) g, started-bytes [] x w)))

output_le : {xs : List Step} → Good xs → length (output xs) ≤ 2 * list_bytes xs
unfolding output packed packets output_of list_bytes bytes_of_packet
output_le Good.none = omega arith
output_le (Good.more {x} bad p w g) = omega (arith, output-from (started [] x) g, started-bytes [] x w)

-- The output has at most twice the list's bytes.
pub output-bound : (list : List ℕ) (xs : List Step) → records_of list ≡ records xs → length (output xs) ≤ 2 * length list
output-bound list xs e = omega (arith, output_le (records-good list xs e), list-bytes list xs e)
