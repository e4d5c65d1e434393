-- The second pass keeps the output of the packets so far at the front of the room.
use Prim.Native.Nat.{ℕ, zero, suc, ◌+◌, ◌-◌, ◌≤◌, ◌<◌}
use mathlib.Core.Path.{◌≡◌, refl, sym, ◌∙◌}
use mathlib.Core.List.{List, [], ◌∷◌, ◌++◌, append-nil}
use mathlib.Core.Bool.{Bool, false}
use native.Mathlib.Omega.{arith}
use native.Mathlib.Nat.{le_trans}
use lib.ListN.{length, take, drop, length-append, length-drop}
use lib.Seq.{take-take}
use Rattle.lbp16.specs.Space.{Space}
use Rattle.lbp16.proofs.SpaceLaws.{number_le}
use Rattle.packet.specs.Step.{Kind, read, write, infoRead, Step, is_write, carried}
use Rattle.packet.specs.Rules.{first}
use Rattle.packet.specs.Command.{pick_kind}
use Rattle.packet.proofs.StepLaws.{carried_le}
use Rattle.cue.specs.Records.{Listed, refused, records, records_of, records_from, record_refusals, record_step, bytes_of_value}
use Rattle.cue.specs.Records.{record_kind, record_space, record_bytes, record_at}
use Rattle.cue.specs.Packing.{Command, Open, commands_of, started, join_all, bytes_of_packet}
use Rattle.cue.specs.Output.{output_of}
use Rattle.cue.specs.Inside.{onward, Planned, planned, room_after, Placed, Ready}
use Rattle.cue.specs.Summary.{carried_by, Progress, none, some, summary, turned_by, wrote}
use Rattle.cue.specs.Compile.{bytes_of_output}
use Rattle.cue.specs.declared.packer.Packer.{Packer}
use Rattle.cue.specs.declared.records.Record.{Record}
use Rattle.cue.proofs.PacketLaws.{packet-bytes_append}
use Rattle.cue.proofs.PackingLaws.{turn-cases}
use Rattle.cue.proofs.OutputLaws.{joined_bytes}
use Rattle.cue.proofs.ReadingLaws.{passing, front-there}
use Rattle.cue.proofs.PackerLaws.{grown, carried-brief, output-append, output-one, advance, finished}
use Rattle.cue.proofs.LoopLaws.{Held, held_first, held_next, held-again, bytes_whole, shorter, onward-next, onward-end, planned-refused, end_is, at-end}
use Rattle.cue.proofs.RoomLaws.{room_of, finished-length, open_apart, head-length, wrote-next}

-- the output only grows
started-more : (cs : List Command) (x : Step) → length (bytes_of_packet cs) ≤ length (bytes_of_packet (commands_of (started cs x)))
unfolding commands_of started
started-more cs x = simp (packet-bytes_append, length-append) (omega arith)

turn_more : (css : List (List Command)) (o : Open) (x : Step)
    → length (bytes_of_output (finished (some css o))) ≤ length (bytes_of_output (finished (advance (some css o) x)))
unfolding advance
turn_more css o x =
    turn-cases o x
    (λ t. length (bytes_of_output (finished (some css o))) ≤ length (bytes_of_output (finished (some (css ++ t.closed) t.open?))))
    (λ _. rw (finished-length, finished-length, append-nil, joined_bytes) (omega arith))
    (λ _. rw (finished-length, finished-length, append-nil) (omega (arith, started-more (commands_of o) x)))
    (rw (finished-length, finished-length, output-append, length-append, output-one) (omega arith))

advance-more : (s : Progress) (x : Step) → length (bytes_of_output (finished s)) ≤ length (bytes_of_output (finished (advance s x)))
unfolding finished bytes_of_output output_of
advance-more none x = omega arith
advance-more (some css o) x = turn_more css o x

onward-more : (s : Progress) (xs : List Step) → length (bytes_of_output (finished s)) ≤ length (bytes_of_output (onward s xs))
onward-more s [] = rw onward-end (omega arith)
onward-more s (x ∷ xs) = rw onward-next (le_trans (advance-more s x) (onward-more (advance s x) xs))

-- a plan that is no refusal has room for the packets so far
plan-more : (s : Progress) (v : Listed) (css : List (List Command)) → planned s v ≡ Planned.packed css
    → length (bytes_of_output (finished s)) ≤ length (bytes_of_output css)
unfolding planned
plan-more s (refused n i) css e = let z : ◌≡◌ {A = ℕ} 0 1 = cc in absurd (omega arith)
plan-more s (records xs) css e = let q : onward s xs ≡ css = cc in rw (← q) (onward-more s xs)

-- where the parts of a packet stand
record Shape (q : Packer) : Type 0 where
  frame : q.frame + 4 ≤ q.end
  word : q.word + 4 ≤ q.end
  space : q.space ≤ 7

shape_some : (css : List (List Command)) (o : Open) (u : Bool) → Shape (summary (some css o) u)
unfolding summary
shape_some css o u =
    let bytes : length (bytes_of_packet (commands_of o)) ≡ length (bytes_of_packet o.before) + (4 + length (join_all o.last.elements)) =
    rw (open_apart, length-append, length-append, head-length) refl in
    record { frame = omega arith; word = omega arith; space = number_le _ }

shape_next : (s : Progress) (x : Step) (u : Bool) → Shape (summary (advance s x) u)
unfolding advance
shape_next none x u = shape_some _ _ u
shape_next (some css o) x u = shape_some _ _ u

-- an element stands whole in its record
pub element-whole : (k : Kind) (s : Space) → 6 + carried k s ≤ record_bytes k
unfolding record_bytes is_write carried
element-whole read s = omega arith
element-whole write s = omega (arith, carried_le write s)
element-whole infoRead s = omega arith

-- the element's bytes in the list
pub bytes_are : (rest : List ℕ) → take (carried_by (record_at rest)) (drop 6 rest) ≡ (record_step rest).bytes
unfolding record_step bytes_of_value carried_by record_at record_kind record_space
bytes_are rest = sym (take-take _ 4 (drop 6 rest) (carried_le _ _))

-- the room keeps its length
room-length : (css : List (List Command)) (room : List ℕ) → length (bytes_of_output css) ≤ length room
    → length (room_after (Planned.packed css) room) ≡ length room
unfolding room_after
room-length css room h = rw (length-append, length-drop) (omega arith)

-- One record of a list that the first pass found good.
module _ (list rest room : List ℕ) (index : ℕ) (s : Progress) (p : Packer) (ready : Ready list room)
    (h : Held list rest index s p) (l : length rest ≡ 0 → ⊥) where
  pub good-next : first (record_refusals index rest) ≡ 0
  good-next = go h.fuel h.enough h.same
    where
      go : (k : ℕ) → length rest ≤ k → planned none (records_of list) ≡ planned s (records_from k index rest)
          → first (record_refusals index rest) ≡ 0
      go zero n q = absurd (omega arith)
      go (suc k) n q = decide (first (record_refusals index rest)) refl
        where
          decide : (m : ℕ) → first (record_refusals index rest) ≡ m → first (record_refusals index rest) ≡ 0
          decide zero e = e
          decide (suc m) e =
              let y = sym ready.plan ∙ q ∙ planned-refused k index s rest (omega arith) (λ z. omega arith) in
              let z : ◌≡◌ {A = ℕ} 0 1 = cc in
              absurd (omega arith)

  next-held : Held list (drop (record_bytes (record_kind rest)) rest) (index + 1) (advance s (record_step rest)) (turned_by p (record_at rest))
  next-held = held_next list rest index s p h (omega arith) good-next

  next_fits : length (bytes_of_output (finished (advance s (record_step rest)))) ≤ length room
  next_fits =
      le_trans (plan-more _ _ ready.packets (sym next-held.same ∙ ready.plan)) ready.fits

  now-length : length (room_of s room) ≡ length room
  now-length = room-length (finished s) room (le_trans (advance-more s (record_step rest)) next_fits)

  pub placed-next : Placed (turned_by p (record_at rest)) (length (room_of s room))
  placed-next =
      let n = next-held in
      let g = grown p (record_at rest) in
      let f : Shape (turned_by p (record_at rest)) = rw n.following.packer (shape_next s (record_step rest) _) in
      let e : (turned_by p (record_at rest)).end ≤ length room =
      rw (n.following.packer, end_is) next_fits in
      rw now-length
      (record {
        frame = omega (arith, f.frame);
        word = omega (arith, f.word);
        unlock = g.unlock;
        end = e;
        element = omega (arith, f.word);
        space = f.space;
        count = g.count;
        packet = g.packet;
      })

  pub element-next : 6 + carried_by (record_at rest) ≤ length rest
  element-next =
      let w = passing index rest good-next in
      rw (w.read, carried-brief (record_step rest) w.plain)
      (le_trans (element-whole (record_step rest).kind (record_step rest).space) w.bytes)

  pub room_next : wrote (turned_by p (record_at rest)) (take (carried_by (record_at rest)) (drop 6 rest)) (room_of s room)
      ≡ room_of (advance s (record_step rest)) room
  room_next =
      let w = passing index rest good-next in
      rw (bytes_are, w.read, h.following.packer)
      (wrote-next s _ (record_step rest) (record { good = w.good; plain = w.plain; wide = w.wide }) h.following.rising room next_fits)

-- What holds before a record in the second pass.
pub record Filled (list rest old room : List ℕ) (p : Packer) : Type 0 where
  pub index : ℕ
  pub s : Progress
  pub held : Held list rest index s p
  pub now : room ≡ room_of s old

pub filled-first : (list old : List ℕ) (p : Packer) → p ≡ summary none false → Filled list list old old p
unfolding room_after finished bytes_of_output output_of
filled-first list old p e = record { index = 0; s = none; held = held_first list p e; now = refl }

pub filled-last : (list rest old room : List ℕ) (p : Packer) → Filled list rest old room p → length rest ≡ 0
    → room ≡ room_after (planned none (records_of list)) old
filled-last list rest old room p f l = rw (at-end _ _ _ _ _ f.held l) f.now

pub filled-length : (list rest old room : List ℕ) (p : Packer) → Ready list old → Filled list rest old room p
    → length rest ≡ 0 → length room ≡ length old
filled-length list rest old room p ready f l =
    let e : Planned.packed ready.packets ≡ Planned.packed (finished f.s) =
    sym ready.plan ∙ at-end _ _ _ _ _ f.held l in
    let q : ready.packets ≡ finished f.s = cc in
    rw f.now (room-length (finished f.s) old (rw q at ready.fits))

pub put_front : (list rest old room : List ℕ) (p : Packer) → Ready list old → Filled list rest old room p
    → (length rest ≡ 0 → ⊥) → 6 ≤ length rest
put_front list rest old room p ready f l =
    front-there f.index rest (good-next list rest old f.index f.s p ready f.held l)

-- what the record's writing leaves
room-put : (list rest old room : List ℕ) (p q : Packer) (r : Record) (ready : Ready list old) (f : Filled list rest old room p)
    (l : length rest ≡ 0 → ⊥) → r ≡ record_at rest → q ≡ turned_by p r → (m : ℕ) → m ≡ carried_by r
    → wrote q (take m (drop 6 rest)) room ≡ room_of (advance f.s (record_step rest)) old
room-put list rest old room p q r ready f l a d m e =
    rw (e, d, a, f.now) (room_next list rest old f.index f.s p ready f.held l)

-- A turn of the loop, as the code makes it: `q` is the packer that is told of the record.
pub record Putting (list rest old room : List ℕ) (p q : Packer) (r : Record) : Type 0 where
  pub ready : Ready list old
  pub filled : Filled list rest old room p
  pub more : length rest ≡ 0 → ⊥
  pub read : r ≡ record_at rest
  pub told : q ≡ turned_by p r

module _ {list rest old room : List ℕ} {p q : Packer} {r : Record} (t : Putting list rest old room p q r) where
  abbrev f : Filled list rest old room p
  f = t.filled

  pub put-placed : Placed q (length room)
  put-placed = rw (t.told, t.read, f.now) (placed-next list rest old f.index f.s p t.ready f.held t.more)

  pub put-element : (m : ℕ) → m ≡ carried_by r → 6 + m ≤ length rest
  put-element m e = rw (e, t.read) (element-next list rest old f.index f.s p t.ready f.held t.more)

  good : 0 ≡ first (record_refusals f.index rest)
  good = sym (good-next list rest old f.index f.s p t.ready f.held t.more)

  module _ (n : ℕ) (b : n ≡ record_bytes (pick_kind r.write)) where
    pub put_whole : n ≤ length rest
    put_whole = bytes_whole list rest f.index 0 n f.s p r f.held t.more good refl t.read b

    pub put-shorter : length (take (length rest - n) (drop n rest)) < length rest
    put-shorter = shorter list rest f.index 0 n f.s p r f.held t.more good refl t.read b

    pub filled-again : (m : ℕ) (wide : List ℕ) → m ≡ carried_by r → wide ≡ wrote q (take m (drop 6 rest)) room
        → Filled list (take (length rest - n) (drop n rest)) old wide q
    filled-again m wide e w =
        record {
          index = f.index + 1;
          s = advance f.s (record_step rest);
          held = held-again list rest f.index 0 n f.s p r f.held t.more good refl t.read b q t.told;
          now = w ∙ room-put list rest old room p q r t.ready f t.more t.read t.told m e;
        }
