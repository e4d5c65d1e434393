-- Laws of a packet's run.
use Prim.Native.Nat.{ℕ, zero, suc, ◌+◌, ◌*◌, ◌/◌, ◌%◌, ◌≤◌, ◌<◌}
use mathlib.Core.Path.{◌≡◌, refl, sym, ap, ◌∙◌}
use mathlib.Core.Logic.{◌⊎◌, inl}
use mathlib.Core.Bool.{Bool, true, false, not, cond}
use mathlib.Core.List.{List, [], ◌∷◌}
use native.Mathlib.Omega.{arith}
use native.Mathlib.Decide.{dec_le}
use native.Mathlib.Nat.{add-zero}
use lib.Dec.{eqb, ltb}
use lib.ListN.{length, drop, get_or, set, length-set}
use lib.Seq.{length-sets, get_or-set_same, get_or-set_other, drop_at}
use borrow.Author.Tests.{eqb-true, eqb-false, eq-eqb, ne_eqb, ltb-true, ltb-false, not-false, le-ltb}
use Rattle.lbp16.proofs.ListLaws.{slice_of_sets}
use Rattle.lbp16.proofs.BoolLaws.{or_false}
use Rattle.lbp16.proofs.PointerLaws.{pointer_le}
use Rattle.lbp16.specs.Answer.{Answer}
use Rattle.lbp16.specs.Space.{Space, store_bytes, row, area_row}
use Rattle.lbp16.specs.Pointer.{above_size, pointer_of}
use Rattle.lbp16.specs.declared.pointer.Pointers.{Pointers}
use Rattle.packet.specs.Step.{at, is_info, row_by, store_after, values_read, reply_bytes}
use Rattle.packet.specs.Inside.{status_write}
use Rattle.packet.specs.Command.{limit}
use Rattle.packet.specs.Judge.{Carried, Verdict, refused, accepted, judge}
use Rattle.packet.specs.Verdict.{answer_to}
use Rattle.packet.specs.Counts.{elements_moved}
use Rattle.packet.specs.Bytes.{number, bytes_of}
use Rattle.packet.proofs.StoreLaws.{Spared, get_d_sets, slice_sets, spared_byte, length-after, length-values}
use Rattle.packet.proofs.InfoLaws.{accepted-whole}
use Rattle.packet.proofs.JudgeLaws.{pointers-kept}
use Rattle.packet.proofs.CountLaws.{steps-counted, few-elements}
use Rattle.packet.proofs.RefusalLaws.{RefusedAt, refused-in_table, accepted-within, accepted-inside}
use Rattle.card.specs.Run.{unlock_cell, count_cell, cleared, bytes_of_count, counted, most_elements}
use Rattle.card.specs.Run.{bad_state, checked_packet, checked, outcome, run_verdict, run_packet}

-- the unlock cell is address 0x1A of space 6
pub unlock-cell : unlock_cell ≡ at (status_write 0x1A [])
unfolding at row_by is_info area_row row
unlock-cell = refl

pub length-cleared : (store : List ℕ) → length (cleared store) ≡ length store
unfolding cleared
length-cleared store = length-sets store unlock_cell (0 ∷ 0 ∷ [])

-- outside the unlock cell nothing is cleared
pub cleared-outside : (store : List ℕ) (i : ℕ) → (i < unlock_cell) ⊎ (unlock_cell + 2 ≤ i)
    → get_or (cleared store) i 0 ≡ get_or store i 0
unfolding cleared
cleared-outside store i h = get_d_sets store i unlock_cell (0 ∷ 0 ∷ []) 0 h

-- inside it both bytes are
pub cleared-inside : (store : List ℕ) (i : ℕ) → unlock_cell + 2 ≤ length store → unlock_cell ≤ i → i < unlock_cell + 2
    → get_or (cleared store) i 0 ≡ 0
unfolding cleared
cleared-inside store i n h k = go (dec_le i unlock_cell)
  where
    go : Dec (i ≤ unlock_cell) → get_or (cleared store) i 0 ≡ 0
    go (yes l) =
        let e : i ≡ unlock_cell = omega arith in
        rw (e, get_or-set_other (set store unlock_cell 0) (unlock_cell + 1) unlock_cell 0 0 (omega arith))
        (get_or-set_same store unlock_cell 0 0 (omega arith))
    go (no g) =
        let e : i ≡ unlock_cell + 1 = omega arith in
        rw e (get_or-set_same (set store unlock_cell 0) (unlock_cell + 1) 0 0 (rw length-set (omega arith)))

-- the packet count is address 0x0A of space 6
pub count-cell : count_cell ≡ at (status_write 0x0A [])
unfolding at row_by is_info area_row row
count-cell = refl

pub length-counted : (store : List ℕ) → length (counted store) ≡ length store
unfolding counted
length-counted store = length-sets store count_cell (bytes_of 2 (number (bytes_of_count store) + 1))

-- outside the count nothing is counted
pub counted-outside : (store : List ℕ) (i : ℕ) → (i < count_cell) ⊎ (count_cell + 2 ≤ i)
    → get_or (counted store) i 0 ≡ get_or store i 0
unfolding counted bytes_of
counted-outside store i h = get_d_sets store i count_cell (bytes_of 2 (number (bytes_of_count store) + 1)) 0 h

-- A number's lowest bytes go on counting from its lowest bytes.
over : (m x : ℕ) → ((256 * m + x) % 256 ≡ x % 256) × ((256 * m + x) / 256 ≡ m + x / 256)
over m x = (omega arith, omega arith)

pub count-on : (w n k : ℕ) → bytes_of w (number (bytes_of w n) + k) ≡ bytes_of w (n + k)
unfolding bytes_of number
count-on zero n k = refl
count-on (suc w) n k =
    let x = n % 256 + k in
    let m = number (bytes_of w (n / 256)) in
    let before : n % 256 + 256 * m + k ≡ 256 * m + x = omega arith in
    let after : n + k ≡ 256 * (n / 256) + x = omega arith in
    rw (before, after, (over m x).0, (over m x).1, (over (n / 256) x).0, (over (n / 256) x).1, count-on w (n / 256) (x / 256)) refl

pub count_modulo : (n : ℕ) → bytes_of 2 (n % 65536) ≡ bytes_of 2 n
unfolding bytes_of number
count_modulo n =
    let e : number (bytes_of 2 n) + 0 ≡ n % 65536 = omega arith in
    sym (ap (bytes_of 2) e) ∙ count-on 2 n 0 ∙ ap (bytes_of 2) (add-zero n)

-- what the count holds once it has risen
pub count_risen : (store : List ℕ) → length store ≡ store_bytes
    → bytes_of_count (counted store) ≡ bytes_of 2 (number (bytes_of_count store) + 1)
unfolding counted bytes_of_count bytes_of
count_risen store h = slice_of_sets store count_cell (bytes_of 2 (number (bytes_of_count store) + 1)) (rw h (omega arith))

-- clearing the unlock cell leaves the count
pub count-cleared : (store : List ℕ) → bytes_of_count (cleared store) ≡ bytes_of_count store
unfolding bytes_of_count cleared
count-cleared store = slice_sets store count_cell 2 unlock_cell (0 ∷ 0 ∷ []) (inl (omega arith))

-- What refusal 1 does not turn away: a whole store and sound pointers.
pub good-state : (store : List ℕ) (p : Pointers) → bad_state store p ≡ false
    → (length store ≡ store_bytes) × (above_size p ≡ false)
unfolding bad_state
good-state store p h =
    let o = or_false (not (eqb (length store) store_bytes)) (above_size p) h in
    (eqb-true _ _ (not-false _ o.0), o.1)

-- Refusal 1 looks only at the store's length and the pointers.
pub state-again : (a b : List ℕ) (p q : Pointers) → length b ≡ length a → above_size q ≡ false
    → bad_state a p ≡ false → bad_state b q ≡ false
unfolding bad_state
state-again a b p q e k h = rw (e, (or_false (not (eqb (length a) store_bytes)) (above_size p) h).0) k

-- The check's answer does not depend on what the store's cells hold.
pub check_sees_no_cell : (packet a b : List ℕ) (p : Pointers) → length a ≡ length b → checked packet a p ≡ checked packet b p
unfolding checked bad_state
check_sees_no_cell packet a b p e = rw e refl

-- With a reply room of 1,472 bytes the run is decided by the check: it refuses what the check refuses, number and place,
-- and otherwise answers the check's length. Any other room is refused with 1 at 0, and nothing changes.
module _ (packet store : List ℕ) (p : Pointers) (reply : List ℕ) where
  pub run_checked : length reply ≡ limit → run_packet packet store p reply ≡ outcome (checked packet store p) store p reply
  unfolding run_packet run_verdict
  run_checked e = rw (eq-eqb _ _ e) refl

  pub run_answers_check : length reply ≡ limit → (run_packet packet store p reply).answer ≡ answer_to (checked packet store p)
  unfolding outcome
  run_answers_check e = rw (run_checked e) (go (checked packet store p))
    where
      go : (v : Verdict) → (outcome v store p reply).answer ≡ answer_to v
      go (refused n place) = refl
      go (accepted c) = refl

  pub other-room_refused : (length reply ≡ limit → ⊥)
      → run_packet packet store p reply
      ≡ record { answer = Answer.refused 1 0; elements = 0; store = store; reply = reply; pointers = p }
  unfolding run_packet run_verdict outcome answer_to
  other-room_refused h = rw (ne_eqb _ _ h) refl

-- A packet that passes refusals 1 and 2 and whose commands are accepted is run.
pub run_accepted : (packet store : List ℕ) (p : Pointers) (reply : List ℕ) (c : Carried) → bad_state store p ≡ false
    → length reply ≡ limit → length packet ≤ limit → judge p packet ≡ accepted c
    → run_packet packet store p reply ≡ outcome (accepted c) store p reply
unfolding checked checked_packet
run_accepted packet store p reply c h r n j =
    rw (run_checked packet store p reply r, h, le-ltb limit (length packet) n, j)

-- An accepted packet's steps read as many bytes as their reply has.
pub values-counted : (packet store : List ℕ) (p : Pointers) (c : Carried) → bad_state store p ≡ false
    → judge p packet ≡ accepted c → length (values_read c.steps store) ≡ reply_bytes c.steps
values-counted packet store p c h e =
    length-values c.steps store (good-state store p h).0 (accepted-whole p packet c e) (accepted-inside p packet c e)

module _ (packet store : List ℕ) (p : Pointers) where
  -- What holds of refusal 1, of refusal 2 and of the commands' check holds of every check.
  pub checked-cases : (P : Verdict → Type 0) → (bad_state store p ≡ true → P (refused 1 0))
      → (bad_state store p ≡ false → limit < length packet → P (refused 2 0))
      → (bad_state store p ≡ false → length packet ≤ limit → P (judge p packet)) → P (checked packet store p)
  unfolding checked checked_packet
  checked-cases P bad long good = go (bad_state store p) (ltb limit (length packet)) refl refl
    where
      go : (b l : Bool) → bad_state store p ≡ b → ltb limit (length packet) ≡ l
          → P (cond b (refused 1 0) (cond l (refused 2 0) (judge p packet)))
      go true l e f = bad e
      go false true e f = long e (ltb-true _ _ f)
      go false false e f = good e (ltb-false _ _ f)

  -- The answered length is the number of bytes read, and at most 1,472.
  pub answered-length : (c : Carried) → checked packet store p ≡ accepted c
      → (length (values_read c.steps store) ≡ reply_bytes c.steps) × (reply_bytes c.steps ≤ limit)
  answered-length c =
      checked-cases
      (λ v. v ≡ accepted c → (length (values_read c.steps store) ≡ reply_bytes c.steps) × (reply_bytes c.steps ≤ limit))
      (λ _ e. let z : ◌≡◌ {A = ℕ} 0 1 = cc in absurd (omega arith))
      (λ _ _ e. let z : ◌≡◌ {A = ℕ} 0 1 = cc in absurd (omega arith))
      (λ state _ e. (values-counted packet store p c state e, accepted-within p packet c e))

  -- No pointer is left above its space's size, and none of an info area above 16.
  pub pointers-within : (c : Carried) → checked packet store p ≡ accepted c → (i : Bool) (s : Space)
      → pointer_of c.pointers i s ≤ (area_row i s).bytes
  pointers-within c =
      checked-cases (λ v. v ≡ accepted c → (i : Bool) (s : Space) → pointer_of c.pointers i s ≤ (area_row i s).bytes)
      (λ _ e. let z : ◌≡◌ {A = ℕ} 0 1 = cc in absurd (omega arith))
      (λ _ _ e. let z : ◌≡◌ {A = ℕ} 0 1 = cc in absurd (omega arith))
      (λ state _ e. pointer_le c.pointers (pointers-kept p packet c (good-state store p state).1 e))

  -- A check's refusal is number 1 or 2 in its case, at place 0, or else that of the earliest command that fails.
  pub data CheckRefused (n place : ℕ) : Type 0 where
    state : bad_state store p ≡ true → n ≡ 1 → place ≡ 0 → CheckRefused n place
    long : bad_state store p ≡ false → limit < length packet → n ≡ 2 → place ≡ 0 → CheckRefused n place
    command : bad_state store p ≡ false → length packet ≤ limit → RefusedAt p packet n place → CheckRefused n place

  pub check-refusals : (n place : ℕ) → checked packet store p ≡ refused n place → CheckRefused n place
  check-refusals n place =
      checked-cases (λ v. v ≡ refused n place → CheckRefused n place) (λ b q. CheckRefused.state b (cc) (cc))
      (λ b l q. CheckRefused.long b l (cc) (cc))
      (λ b l q. CheckRefused.command b l (refused-in_table p packet n place q))

module _ (packet store : List ℕ) (p : Pointers) (reply : List ℕ) where
  -- what an outcome's answer says of its verdict
  refused-verdict : (n place : ℕ) (v : Verdict) → (outcome v store p reply).answer ≡ Answer.refused n place → v ≡ refused n place
  unfolding outcome answer_to
  refused-verdict n place (refused m k) e = cc
  refused-verdict n place (accepted c) e = cc

  -- A refusal changes nothing lent.
  pub refusal_changes_nothing : (n place : ℕ) → (run_packet packet store p reply).answer ≡ Answer.refused n place
      → ((run_packet packet store p reply).store ≡ store) × ((run_packet packet store p reply).reply ≡ reply)
      × ((run_packet packet store p reply).pointers ≡ p) × ((run_packet packet store p reply).elements ≡ 0)
  unfolding run_packet outcome
  refusal_changes_nothing n place e =
      rw (refused-verdict n place (run_verdict packet store p reply) e) (refl, refl, refl, refl)

  -- A run's refusal is 1 at 0 for another reply room, or else the check's.
  pub data RunRefused (n place : ℕ) : Type 0 where
    room : (length reply ≡ limit → ⊥) → n ≡ 1 → place ≡ 0 → RunRefused n place
    check : length reply ≡ limit → CheckRefused packet store p n place → RunRefused n place

  pub refusals-listed : (n place : ℕ) → (run_packet packet store p reply).answer ≡ Answer.refused n place → RunRefused n place
  refusals-listed n place e = go (eqb (length reply) limit) refl
    where
      go : (b : Bool) → eqb (length reply) limit ≡ b → RunRefused n place
      go true q =
          let r = eqb-true _ _ q in
          RunRefused.check r
          (check-refusals packet store p n place
          (refused-verdict n place _ (sym (ap (λ o. o.answer) (run_checked packet store p reply r)) ∙ e)))
      go false q =
          let h = eqb-false _ _ q in
          let f = ap (λ o. o.answer) (other-room_refused packet store p reply h) in
          RunRefused.room h (let z = sym e ∙ f in cc) (let z = sym e ∙ f in cc)

  -- a packet is accepted only on a whole store
  accepted-state : (c : Carried) → checked packet store p ≡ accepted c → length store ≡ store_bytes
  accepted-state c =
      checked-cases packet store p (λ v. v ≡ accepted c → length store ≡ store_bytes)
      (λ _ e. let z : ◌≡◌ {A = ℕ} 0 1 = cc in absurd (omega arith))
      (λ _ _ e. let z : ◌≡◌ {A = ℕ} 0 1 = cc in absurd (omega arith))
      (λ state _ e. (good-state store p state).0)

  -- What holds of every refusal, and of a packet whose commands are accepted, holds of every run.
  run_cases : (P : Verdict → Type 0) → ((n place : ℕ) → P (refused n place))
      → ((c : Carried) → length packet ≤ limit → judge p packet ≡ accepted c → P (accepted c)) → P (run_verdict packet store p reply)
  unfolding run_verdict
  run_cases P refuses accepts = go (eqb (length reply) limit)
    where
      judged : (v : Verdict) → length packet ≤ limit → judge p packet ≡ v → P v
      judged (refused n place) l e = refuses n place
      judged (accepted c) l e = accepts c l e

      go : (b : Bool) → P (cond b (checked packet store p) (refused 1 0))
      go true = checked-cases packet store p P (λ _. refuses 1 0) (λ _ _. refuses 2 0) (λ _ l. judged (judge p packet) l refl)
      go false = refuses 1 0

  -- The elements moved are as many as the packet's commands count together, and none of a refused packet.
  pub elements_summed : (run_packet packet store p reply).elements ≡ elements_moved (run_packet packet store p reply).answer packet
  unfolding run_packet outcome answer_to elements_moved
  elements_summed =
      run_cases (λ v. (outcome v store p reply).elements ≡ elements_moved (outcome v store p reply).answer packet) (λ n place. refl)
      (λ c l e. steps-counted p packet c e)

  -- Never more than 1,460 elements are moved.
  pub at_most : (run_packet packet store p reply).elements ≤ most_elements
  unfolding run_packet outcome
  at_most =
      run_cases (λ v. (outcome v store p reply).elements ≤ most_elements) (λ n place. omega arith) (λ c l e. few-elements p packet c l e)

  module _ (room : length reply ≡ limit) where
    -- The reply past the answered length is unchanged.
    pub reply-past_answer : (n : ℕ) → (run_packet packet store p reply).answer ≡ Answer.accepted (n ∷ [])
        → drop n (run_packet packet store p reply).reply ≡ drop n reply
    unfolding outcome answer_to
    reply-past_answer n e =
        rw (run_checked packet store p reply room)
        (go (checked packet store p) refl (sym (run_answers_check packet store p reply room) ∙ e))
      where
        go : (v : Verdict) → checked packet store p ≡ v → answer_to v ≡ Answer.accepted (n ∷ [])
            → drop n (outcome v store p reply).reply ≡ drop n reply
        go (refused m k) q e = refl
        go (accepted c) q e =
            let l : length (values_read c.steps store) ≡ n =
            (answered-length packet store p c q).0 ∙ (let z : reply_bytes c.steps ≡ n = cc in z) in
            rw l (drop_at (values_read c.steps store) (drop n reply) n l)

    -- An accepted packet changes no byte that none of its writes names, the unlock cell and the count apart.
    pub accepted_spares : (c : Carried) → checked packet store p ≡ accepted c → (i : ℕ) → Spared i c.steps
        → (i < unlock_cell) ⊎ (unlock_cell + 2 ≤ i) → (i < count_cell) ⊎ (count_cell + 2 ≤ i)
        → get_or (run_packet packet store p reply).store i 0 ≡ get_or store i 0
    unfolding outcome
    accepted_spares c e i h k l =
        let left = store_after c.steps store in
        rw (run_checked packet store p reply room, e)
        (counted-outside (cleared left) i l ∙ cleared-outside left i k ∙ spared_byte i c.steps store h)

    -- The count after an accepted packet is what its steps leave there plus one, modulo 65,536.
    pub accepted-counts : (c : Carried) → checked packet store p ≡ accepted c
        → bytes_of_count (run_packet packet store p reply).store
        ≡ bytes_of 2 (number (bytes_of_count (store_after c.steps store)) + 1)
    unfolding outcome
    accepted-counts c e =
        let left = store_after c.steps store in
        let whole : length (cleared left) ≡ store_bytes =
        length-cleared left ∙ length-after c.steps store ∙ accepted-state c e in
        rw (run_checked packet store p reply room, e) (count_risen (cleared left) whole ∙ rw count-cleared refl)
