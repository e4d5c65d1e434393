-- One step at the front of a list's bytes, by the tests that the code makes.
use Prim.Native.Nat.{ℕ, ◌+◌, ◌-◌, ◌≤◌, ◌<◌}
use mathlib.Core.Path.{◌≡◌, refl, sym, ap, ◌∙◌}
use mathlib.Core.List.{List}
use mathlib.Core.Bool.{Bool, true, false, not, ◌&&◌, ◌||◌, cond, beq}
use native.Mathlib.Omega.{arith}
use lib.Dec.{eqb, ltb}
use lib.ListN.{length, take, drop}
use lib.Seq.{take-take}
use borrow.Author.Tests.{eq-eqb, ne_eqb, eqb-true, eqb-false, lt-ltb, le-ltb}
use Rattle.text.specs.Find.{same_bytes}
use Rattle.lbp16.specs.Space.{Space, space_of, space_number, is_absent, row}
use Rattle.lbp16.specs.declared.space.Row.{Row}
use Rattle.lbp16.proofs.SpaceLaws.{element_le}
use Rattle.packet.specs.Bytes.{number}
use Rattle.packet.specs.Step.{Step, is_status, is_write, is_info, names_unlock, carried}
use Rattle.packet.specs.Command.{pick_kind, payload}
use Rattle.packet.proofs.StepLaws.{carried_le}
use Rattle.cue.specs.Records.{record_step, record_kind, record_space, record_bytes, bytes_of_value}
use Rattle.cue.specs.Records.{record_at}
use Rattle.cue.specs.declared.records.Record.{Record}
use Rattle.lbp16.proofs.CaseLaws.{space-cases}
use Rattle.tight.specs.Tight.{unlocks, same_kind, same_step}
use Rattle.tight.specs.Inside.{element_step, step_takes}
use Rattle.std.proofs.Common.{Some, None}

pub unlocks-is : (w : Bool) (space address pair : ℕ) (bytes : List ℕ) → pair ≡ number (take 2 (drop 0 bytes))
    → (w && eqb space 6 && eqb address 0x1A && eqb pair 0x5A02) ≡ unlocks (element_step w space address bytes)
unfolding element_step unlocks is_write names_unlock payload carried is_status row
unlocks-is false space address pair bytes e = refl
unlocks-is true space address pair bytes e =
    rw e
    (space-cases space
    (λ n s. (true && eqb n 6 && t && is 2) ≡ (true && (t && is_status s) && is (row s).element))
    (none t (is 4)) (none t (is 2)) (both t (is 2)) (none t (is 2))
    (λ a b c d. rw (ne_eqb space 6 c) (none t (is 1))))
  where
    t : Bool
    t = eqb address 0x1A

    is : ℕ → Bool
    is n = eqb (number (take n bytes)) 0x5A02

    none : (t u : Bool) → false ≡ ((t && false) && u)
    none true u = refl
    none false u = refl

    both : (t u : Bool) → (t && u) ≡ ((t && true) && u)
    both true u = refl
    both false u = refl

-- a number that names a space, against any number
same-space : (n m : ℕ) → is_absent (space_of n) ≡ false → eqb (space_number (space_of n)) (space_number (space_of m)) ≡ eqb m n
unfolding space_number is_absent
same-space n m =
    space-cases n (λ i s. is_absent s ≡ false → eqb (space_number s) (space_number (space_of m)) ≡ eqb m i)
    (λ h. space-cases m (λ j t. eqb 0 (space_number t) ≡ eqb j 0) refl refl refl refl (λ a b c d. sym (ne_eqb m 0 a)))
    (λ h. space-cases m (λ j t. eqb 2 (space_number t) ≡ eqb j 2) refl refl refl refl (λ a b c d. sym (ne_eqb m 2 b)))
    (λ h. space-cases m (λ j t. eqb 6 (space_number t) ≡ eqb j 6) refl refl refl refl (λ a b c d. sym (ne_eqb m 6 c)))
    (λ h. space-cases m (λ j t. eqb 7 (space_number t) ≡ eqb j 7) refl refl refl refl (λ a b c d. sym (ne_eqb m 7 d)))
    (λ a b c d h. let z : ◌≡◌ {A = ℕ} 0 1 = cc in absurd (omega arith))

eqb_comm : (a b : ℕ) → eqb a b ≡ eqb b a
eqb_comm a b = go (eqb b a) refl
  where
    go : (t : Bool) → eqb b a ≡ t → eqb a b ≡ t
    go true e = eq-eqb a b (sym (eqb-true b a e))
    go false e = ne_eqb a b (λ q. eqb-false b a e (sym q))

payload-take : (w : Bool) (s : Space) (bytes : List ℕ) → payload (pick_kind w) s bytes ≡ take (carried (pick_kind w) s) bytes
unfolding payload carried
payload-take true s bytes = refl
payload-take false s bytes = refl

same_kind_lem : (w : Bool) → same_kind (pick_kind w) (pick_kind w) ≡ true
unfolding same_kind is_write is_info
same_kind_lem true = refl
same_kind_lem false = refl

carried-is : (w : Bool) (s : Space) (e : ℕ) → w ≡ true → e ≡ (row s).element
    → (e ≡ carried (pick_kind w) s) × (e + 6 ≤ record_bytes (pick_kind w))
unfolding carried record_bytes is_write
carried-is w s e t q = rw t (q, omega (arith, element_le s))

pub carried_some : (w : Bool) (s : Space) (r : Row) → w ≡ true → r ≡ row s
    → (r.element ≡ carried (pick_kind w) s) × (r.element + 6 ≤ record_bytes (pick_kind w))
carried_some w s r t q = carried-is w s r.element t (ap (λ (r : Row). r.element) q)

pub carried_no : (w : Bool) (s : Space) → w ≡ false → (0 ≡ carried (pick_kind w) s) × (6 ≤ record_bytes (pick_kind w))
unfolding carried record_bytes is_write
carried_no w s t = rw t (refl, omega arith)

-- An element against a record: the code's tests `differs` and `same`, the latter over the bytes that the element carries.
abbrev differs : Record → Bool → ℕ → ℕ → Bool
differs r w space address = not (beq r.write w) || not (eqb r.space space) || not (eqb r.address address)

-- the bytes that an element carries
abbrev front : Bool → ℕ → List ℕ → List ℕ
front w space bytes = take (carried (pick_kind w) (space_of space)) bytes

abbrev recorded : Bool → ℕ → ℕ → List ℕ → Step
recorded v n a value =
    record { kind = pick_kind v; space = space_of n; address = a; bytes = take (carried (pick_kind v) (space_of n)) (take 4 value) }

module _ (n a space address : ℕ) (bytes value : List ℕ) (present : is_absent (space_of space) ≡ false) where
  same_alike : (w : Bool)
      → same_step (element_step w space address bytes) (recorded w n a value)
      ≡ (not (not (eqb n space) || not (eqb a address)) && same_bytes (front w space bytes) (front w space value))
  unfolding same_step element_step
  same_alike w =
      rw (same_kind_lem w, same-space space n present, eqb_comm address a, payload-take w)
      (pick (eqb n space) (eqb a address) _ _ bytes_same)
    where
      pick : (t u b c : Bool) → (t ≡ true → b ≡ c) → (((true && t) && u) && b) ≡ (not (not t || not u) && c)
      pick true true b c h = h refl
      pick true false b c h = refl
      pick false u b c h = refl

      bytes_same : eqb n space ≡ true
          → same_bytes (front w space bytes) (take (carried (pick_kind w) (space_of n)) (take 4 value))
          ≡ same_bytes (front w space bytes) (front w space value)
      bytes_same e = rw (eqb-true n space e, take-take _ 4 value (carried_le (pick_kind w) (space_of space)))

  same_step_lem : (v w : Bool)
      → same_step (element_step w space address bytes) (recorded v n a value)
      ≡ (not (differs (record { write = v; space = n; address = a }) w space address)
      && same_bytes (front w space bytes) (front w space value))
  unfolding same_step element_step same_kind is_write is_info
  same_step_lem true true = same_alike true
  same_step_lem false false = same_alike false
  same_step_lem true false = refl
  same_step_lem false true = refl

pub element-unlocks : (x : Step) (rest : List ℕ) → unlocks x ≡ true → Some 0 ≡ step_takes x rest
unfolding step_takes
element-unlocks x rest e = rw e

-- What the code has found before it compares: the element is no unlock write, r is the record at the front, of n bytes.
pub record Compared (w : Bool) (space address : ℕ) (bytes rest : List ℕ) (r : Record) (n : ℕ) : Type 0 where
  pub present : is_absent (space_of space) ≡ false
  pub plain : unlocks (element_step w space address bytes) ≡ false
  pub read : r ≡ record_at rest
  pub record_bytes_lem : n ≡ record_bytes (pick_kind r.write)

module _ {w : Bool} {space address : ℕ} {bytes rest : List ℕ} {r : Record} {n : ℕ}
    (c : Compared w space address bytes rest r n) where
  bytes-is : n ≡ record_bytes (record_kind rest)
  unfolding record_at record_kind
  bytes-is = c.record_bytes_lem ∙ ap (λ (r : Record). record_bytes (pick_kind r.write)) c.read

  taken_is : step_takes (element_step w space address bytes) rest
      ≡ cond (not (ltb (length rest) n)
      && (not (differs r w space address) && same_bytes (front w space bytes) (front w space (drop 6 rest))))
      (Some n)
      None
  unfolding step_takes record_step record_at record_kind record_space bytes_of_value
  taken_is =
      rw (c.plain, bytes-is, c.read)
      (ap
      (λ t. cond (not (ltb (length rest) (record_bytes (record_kind rest))) && t) (Some (record_bytes (record_kind rest)))
      None)
      (same_step_lem (record_at rest).space (record_at rest).address space address bytes (drop 6 rest) c.present
      (record_at rest).write
      w))

  pub element-short : length rest < n → None ≡ step_takes (element_step w space address bytes) rest
  element-short h = rw (taken_is, lt-ltb (length rest) n h)

  module _ (whole : n ≤ length rest) where
    pub element-other : differs r w space address ≡ true → None ≡ step_takes (element_step w space address bytes) rest
    element-other h = rw (taken_is, le-ltb (length rest) n whole, h)

    module _ (alike : differs r w space address ≡ false) where
      -- the element's bytes stand behind the record's six
      pub same_write : r.write ≡ w
      same_write = go r.write w _ _ alike
        where
          go : (v w t u : Bool) → ((not (beq v w) || t) || u) ≡ false → v ≡ w
          go true true t u e = refl
          go false false t u e = refl
          go true false t u e = let z : ◌≡◌ {A = ℕ} 0 1 = cc in absurd (omega arith)
          go false true t u e = let z : ◌≡◌ {A = ℕ} 0 1 = cc in absurd (omega arith)

      pub value-within : (m : ℕ) → m + 6 ≤ record_bytes (pick_kind w) → 6 + m ≤ length rest
      value-within m h =
          let e : n ≡ record_bytes (pick_kind w) = c.record_bytes_lem ∙ ap (λ (v : Bool). record_bytes (pick_kind v)) same_write in
          omega arith

      pub element-taken : (m : ℕ) → m ≡ carried (pick_kind w) (space_of space) → (t : Bool) {u : Bool}
          → u ≡ same_bytes (take m bytes) (take (6 + m - 6) (drop 6 rest)) → u ≡ t
          → cond t (Some n) None ≡ step_takes (element_step w space address bytes) rest
      element-taken m e t s f =
          let d : 6 + m - 6 ≡ m = omega arith in
          let q : t ≡ same_bytes (front w space bytes) (front w space (drop 6 rest)) = sym f ∙ s ∙ rw (d, e) refl in
          rw (taken_is, le-ltb (length rest) n whole, alike, ← q) refl
