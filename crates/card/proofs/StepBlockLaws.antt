-- A block of elements moved is the command's steps done.
use Prim.Native.Nat.{ℕ, zero, suc, ◌+◌, ◌*◌, ◌≤◌}
use mathlib.Core.Path.{◌≡◌, refl, sym, ap, ◌∙◌}
use mathlib.Core.List.{List, [], ◌++◌, append_assoc}
use mathlib.Core.Bool.{Bool, true, false, cond}
use native.Mathlib.Omega.{arith}
use native.Mathlib.Nat.{add_assoc, add_comm, suc-mul, zero-mul}
use lib.Dec.{eqb}
use lib.ListN.{length, take, drop, length-append, length-drop}
use lib.Seq.{sets, sets-eq, take_at, drop-drop, length-take-le, drop-append-add}
use borrow.Author.Tests.{ltb-false}
use Rattle.lbp16.specs.Space.{Space, registers, eeprom, status, information, absent, row, info_row, area_row, is_absent}
use Rattle.lbp16.proofs.BoolLaws.{or_false}
use Rattle.packet.specs.Step.{Kind, read, write, infoRead, is_info, is_write, row_by, carried, answered, at, source, after, seen}
use Rattle.packet.specs.Step.{stored, store_after, values_read}
use Rattle.packet.specs.Rules.{past_end, any_step}
use Rattle.packet.specs.Command.{payload, elements}
use Rattle.packet.proofs.StepLaws.{carried_none, answered-row}
use Rattle.packet.proofs.StoreLaws.{stored-read}
use Rattle.card.specs.Inside.{Within, moved}

-- an element has 4 bytes or 2
pub element-wide : (i : Bool) (s : Space) → is_absent s ≡ false
    → cond (eqb (area_row i s).element 4) 4 2 ≡ (area_row i s).element
unfolding area_row info_row row is_absent
element-wide true s e = refl
element-wide false registers e = refl
element-wide false eeprom e = refl
element-wide false status e = refl
element-wide false information e = refl
element-wide false absent e = let z : ◌≡◌ {A = ℕ} 0 1 = cc in absurd (omega arith)

-- elements that are not past the end of their space or area stand within bytes that reach to it
pub within-bytes : (k : Kind) (s : Space) (n a d bytes : ℕ) (bs : List ℕ) → any_step past_end (elements k s n a d bs) ≡ false
    → (row_by k s).place + (row_by k s).bytes ≤ bytes → Within n ((row_by k s).place + a) d (row_by k s).element bytes
unfolding any_step past_end elements
within-bytes k s zero a d bytes bs e h = tt
within-bytes k s (suc n) a d bytes bs e h =
    let (now, later) = or_false _ _ e in
    let l = ltb-false (row_by k s).bytes (a + (row_by k s).element) now in
    (omega arith, rw add_assoc (within-bytes k s n (a + d) d bytes _ later h))

pub writes-done : (s : Space) (n a d i : ℕ) (bs store : List ℕ)
    → moved n (row s).element bs i (row s).element store ((row s).place + a) d
    ≡ store_after (elements write s n a d (drop i bs)) store
unfolding moved store_after elements payload after stored at carried row_by is_info area_row
writes-done s zero a d i bs store = refl
writes-done s (suc n) a d i bs store =
    rw (add_assoc, drop-drop) (writes-done s n (a + d) d (i + (row s).element) bs _)

pub writes-read_nothing : (s : Space) (n a d : ℕ) (bs store : List ℕ) → values_read (elements write s n a d bs) store ≡ []
unfolding values_read elements seen answered
writes-read_nothing s zero a d bs store = refl
writes-read_nothing s (suc n) a d bs store = writes-read_nothing s n (a + d) d _ _

-- reads and info reads leave the store
pub reads_keep : (k : Kind) (s : Space) → is_write k ≡ false → (n a d : ℕ) (bs store : List ℕ)
    → store_after (elements k s n a d bs) store ≡ store
unfolding store_after elements after
reads_keep k s e zero a d bs store = refl
reads_keep k s e (suc n) a d bs store =
    ap (store_after (elements k s n (a + d) d _)) (stored-read k _ _ store e) ∙ reads_keep k s e n (a + d) d _ store

-- what an element is read from is what all of them are read from
source-payload : (k : Kind) (s : Space) (bs store : List ℕ) → is_write k ≡ false
    → source k (payload k s bs) store ≡ source k bs store
unfolding source payload is_write
source-payload read s bs store e = refl
source-payload write s bs store e = let z : ◌≡◌ {A = ℕ} 0 1 = cc in absurd (omega arith)
source-payload infoRead s bs store e = refl

-- bytes put in behind a list's front
put-behind : (pre vs suf : List ℕ) → length vs ≤ length suf
    → sets (pre ++ suf) (length pre) vs ≡ (pre ++ vs) ++ drop (length vs) suf
put-behind pre vs suf h =
    rw (sets-eq vs (pre ++ suf) (length pre) (rw length-append (omega arith)), take_at pre suf _ refl, drop-append-add) refl

pub reads-done : (k : Kind) (s : Space) → is_write k ≡ false → (n a d : ℕ) (bs store pre suf : List ℕ)
    → Within n ((row_by k s).place + a) d (row_by k s).element (length (source k bs store)) → n * (row_by k s).element ≤ length suf
    → (length (values_read (elements k s n a d bs) store) ≡ n * (row_by k s).element)
    × (moved n (row_by k s).element (source k bs store) ((row_by k s).place + a) d (pre ++ suf) (length pre) (row_by k s).element
    ≡ pre ++ (values_read (elements k s n a d bs) store ++ drop (n * (row_by k s).element) suf))
unfolding moved values_read elements seen after at
reads-done k s r zero a d bs store pre suf h l = (sym (zero-mul _), rw zero-mul refl)
reads-done k s r (suc n) a d bs store pre suf h l =
    let w = (row_by k s).element in
    let v = take w (drop ((row_by k s).place + a) (source k bs store)) in
    let e : suc n * w ≡ w + n * w = suc-mul n w ∙ add_comm (n * w) w in
    let lv : length v ≡ w = length-take-le w _ (rw length-drop (let q = h.0 in omega arith)) in
    let (count, same) =
    reads-done k s r n (a + d) d bs store (pre ++ v) (drop w suf) (rw add_assoc at h.1) (rw length-drop (omega arith)) in
    rw (answered-row k s r, source-payload k s bs store r, stored-read k _ _ store r, carried_none k s r) (
      rw (length-append, lv, count, e) refl,
      rw (add_assoc, put-behind pre v suf (omega arith), lv)
          ((rw (length-append, lv) at same)
          ∙ append_assoc pre v _
          ∙ ap (λ (l : List ℕ). pre ++ l) (rw (e, ← drop-drop (n * w) w suf) (sym (append_assoc v _ _)))),
    )
