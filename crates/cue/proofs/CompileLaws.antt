-- Laws of compiling a list.
use Prim.Native.Nat.{ℕ, ◌≤◌, ◌<◌}
use mathlib.Core.Path.{◌≡◌, refl, sym, ◌∙◌}
use mathlib.Core.Logic.{◌≢◌}
use mathlib.Core.List.{List, [], ◌∷◌, ◌++◌}
use mathlib.Core.Bool.{Bool, true, false, cond}
use native.Mathlib.Omega.{arith}
use lib.ListN.{length, take, drop, length-append, length-drop}
use lib.Seq.{take_at, drop_at}
use lib.Dec.{ltb}
use borrow.Author.Tests.{ltb-true, ltb-false, le-ltb}
use Rattle.lbp16.specs.Answer.{Answer}
use Rattle.packet.specs.Step.{Step, reply_bytes}
use Rattle.packet.specs.Command.{limit}
use Rattle.cue.specs.Records.{Listed, refused, records, records_of}
use Rattle.cue.specs.Packing.{Command, bytes_of_packet, packet_steps, packets}
use Rattle.cue.specs.Compile.{Compiled, compiled_to, compiled, packed, output}
use Rattle.cue.proofs.Relations.{Good}
use Rattle.cue.proofs.RecordLaws.{RefusedRecord, refused_record}
use Rattle.cue.proofs.PackingLaws.{Packed, packing_keeps}
use Rattle.cue.proofs.OutputLaws.{output-bound}

-- what a list whose records are xs leaves in the room
abbrev pub whole : List Step → List ℕ → Compiled
whole xs room =
    record {
      answer = Answer.accepted (length (output xs) ∷ length (packed xs) ∷ []);
      room = output xs ++ drop (length (output xs)) room;
    }

-- a refusal leaves the room as it is
abbrev pub turned_away : ℕ → ℕ → List ℕ → Compiled
turned_away n k room = record { answer = Answer.refused n k; room = room }

-- What holds of a bad record, of a room that is too small and of a whole output holds of every compilation.
pub compile_cases : (list room : List ℕ) (P : Compiled → Type 0)
    → ((n k : ℕ) → records_of list ≡ refused n k → P (turned_away n k room))
    → ((xs : List Step) → records_of list ≡ records xs → length room < length (output xs)
    → P (turned_away 26 (length (output xs)) room))
    → ((xs : List Step) → records_of list ≡ records xs → length (output xs) ≤ length room → P (whole xs room))
    → P (compiled list room)
unfolding compiled compiled_to
compile_cases list room P bad small good = go (records_of list) refl
  where
    fit : (xs : List Step) (b : Bool) → records_of list ≡ records xs → ltb (length room) (length (output xs)) ≡ b
        → P (cond b (turned_away 26 (length (output xs)) room) (whole xs room))
    fit xs true e f = small xs e (ltb-true _ _ f)
    fit xs false e f = good xs e (ltb-false _ _ f)

    go : (l : Listed) → records_of list ≡ l → P (compiled_to l room)
    go (refused n k) e = bad n k e
    go (records xs) e = fit xs (ltb (length room) (length (output xs))) e refl

-- A list that is answered with no refusal: its records, whose output the room can hold.
pub record Accepted (list room : List ℕ) (c : Compiled) : Type 0 where
  pub xs : List Step
  pub list-records : records_of list ≡ records xs
  pub fits : length (output xs) ≤ length room
  pub same : c ≡ whole xs room

-- The compiler answers a list with no refusal exactly when the table gives it none and the room is large enough:
-- then it does,
pub accepted_exactly : (list room : List ℕ) (xs : List Step) → records_of list ≡ records xs
    → length (output xs) ≤ length room → compiled list room ≡ whole xs room
unfolding compiled compiled_to
accepted_exactly list room xs e h = rw (e, le-ltb (length room) (length (output xs)) h)

-- and if it does, the table gives the list none and the room is large enough.
pub accepted-list : (list room values : List ℕ) → (compiled list room).answer ≡ Answer.accepted values
    → Accepted list room (compiled list room)
accepted-list list room values =
    compile_cases list room (λ c. c.answer ≡ Answer.accepted values → Accepted list room c)
    (λ n k e q. let z : ◌≡◌ {A = ℕ} 0 1 = cc in absurd (omega arith))
    (λ xs e l q. let z : ◌≡◌ {A = ℕ} 0 1 = cc in absurd (omega arith))
    (λ xs e l q. record { xs = xs; list-records = e; fits = l; same = refl })

-- A refusal has one of the numbers 21 to 24 and the index of the earliest bad record, or 26 and the bytes needed.
pub data RefusedList (list room : List ℕ) (n k : ℕ) : Type 0 where
  bad : RefusedRecord list n k → RefusedList list room n k
  small : (xs : List Step) → records_of list ≡ records xs → length room < length (output xs) → n ≡ 26
      → k ≡ length (output xs) → RefusedList list room n k

pub refused-numbers : (list room : List ℕ) (n k : ℕ) → (compiled list room).answer ≡ Answer.refused n k
    → RefusedList list room n k
refused-numbers list room n k =
    compile_cases list room (λ c. c.answer ≡ Answer.refused n k → RefusedList list room n k)
    (λ m i e q. RefusedList.bad (refused_record list n k (e ∙ cc)))
    (λ xs e l q. RefusedList.small xs e l (cc) (cc))
    (λ xs e l q. let z : ◌≡◌ {A = ℕ} 0 1 = cc in absurd (omega arith))

-- A refused compilation leaves the room as it was.
pub refusal_changes_nothing : (list room : List ℕ) (n k : ℕ) → (compiled list room).answer ≡ Answer.refused n k
    → (compiled list room).room ≡ room
refusal_changes_nothing list room n k =
    compile_cases list room (λ c. c.answer ≡ Answer.refused n k → c.room ≡ room) (λ m i e q. refl) (λ xs e l q. refl)
    (λ xs e l q. let z : ◌≡◌ {A = ℕ} 0 1 = cc in absurd (omega arith))

-- The room keeps its length.
pub room-length : (list room : List ℕ) → length (compiled list room).room ≡ length room
room-length list room =
    compile_cases list room (λ c. length c.room ≡ length room) (λ n k e. refl) (λ xs e l. refl)
    (λ xs e l. simp (length-append, length-drop) (omega arith))

-- An accepted one puts the output at the front of the room, and leaves the room beyond as it was.
module _ (list room : List ℕ) (bytes count : ℕ) (e : (compiled list room).answer ≡ Answer.accepted (bytes ∷ count ∷ [])) where
  pub output-at_front : (xs : List Step) → records_of list ≡ records xs → take bytes (compiled list room).room ≡ output xs
  output-at_front xs q =
      let a = accepted-list list room _ e in
      let same = a.same in
      let list-records = a.list-records in
      let s : a.xs ≡ xs = cc in
      let n : length (output xs) ≡ bytes = cc in
      rw (same, s) (take_at (output xs) _ bytes n)

  pub room-beyond : drop bytes (compiled list room).room ≡ drop bytes room
  room-beyond =
      let a = accepted-list list room _ e in
      let same = a.same in
      let n : length (output a.xs) ≡ bytes = cc in
      rw (same, n) (drop_at (output a.xs) (drop bytes room) bytes n)

-- Compiling never depends on what the output room held: for rooms of equal length the answers are equal,
pub answers-alike : (list a b : List ℕ) → length a ≡ length b → (compiled list a).answer ≡ (compiled list b).answer
unfolding compiled compiled_to
answers-alike list a b e = go (records_of list)
  where
    pick : (t : Bool) (xs : List Step)
        → (cond t (turned_away 26 (length (output xs)) a) (whole xs a)).answer
        ≡ (cond t (turned_away 26 (length (output xs)) b) (whole xs b)).answer
    pick true xs = refl
    pick false xs = refl

    go : (l : Listed) → (compiled_to l a).answer ≡ (compiled_to l b).answer
    go (refused n k) = refl
    go (records xs) = rw e (pick (ltb (length b) (length (output xs))) xs)

-- and so are the answered bytes at the front of what is left.
pub outputs-alike : (list a b : List ℕ) (bytes count : ℕ) → length a ≡ length b
    → (compiled list a).answer ≡ Answer.accepted (bytes ∷ count ∷ [])
    → take bytes (compiled list a).room ≡ take bytes (compiled list b).room
outputs-alike list a b bytes count l e =
    let k = accepted-list list a _ e in
    let f : (compiled list b).answer ≡ Answer.accepted (bytes ∷ count ∷ []) = sym (answers-alike list a b l) ∙ e in
    output-at_front list a bytes count e k.xs k.list-records
    ∙ sym (output-at_front list b bytes count f k.xs k.list-records)

-- packets of at most 1,472 bytes each, with replies of at most as many
pub data Within : List (List Command) → Type 0 where
  none : Within []
  more : {cs : List Command} {css : List (List Command)} → length (bytes_of_packet cs) ≤ limit
      → reply_bytes (packet_steps cs) ≤ limit → Within css → Within (cs ∷ css)

-- Every compiled packet and its reply have at most 1,472 bytes.
packed-within : {css : List (List Command)} {xs : List Step} → Packed css xs → Within css
packed-within Packed.none = Within.none
packed-within (Packed.more k p) = Within.more k.short k.reply (packed-within p)

pub packets-within : (xs : List Step) → Good xs → Within (packets xs)
packets-within xs g = packed-within (packing_keeps xs g)

-- The program's room is large enough for every list that it takes: refusal 26 cannot arise.
pub enough-room : (list room : List ℕ) → length list ≤ 16384 → length room ≡ 32768
    → (k : ℕ) → (compiled list room).answer ≢ Answer.refused 26 k
enough-room list room l r k e = go (refused-numbers list room 26 k e)
  where
    go : RefusedList list room 26 k → ⊥
    go (RefusedList.bad b) = omega (arith, b.in_table)
    go (RefusedList.small xs q s n m) = omega (arith, output-bound list xs q)
