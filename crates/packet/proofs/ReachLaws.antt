-- How far a command reaches, as the code puts it together; and the plain commands to space 0, which have a way of their own.
use Prim.Native.Nat.{ℕ, ◌+◌, ◌*◌, ◌/◌, ◌%◌, ◌≤◌, ◌<◌}
use mathlib.Core.Path.{◌≡◌, refl, sym, ap, ◌∙◌}
use mathlib.Core.List.{List, ◌++◌}
use mathlib.Core.Bool.{Bool, true, false, not, ◌&&◌, cond}
use native.Mathlib.Omega.{arith}
use native.Mathlib.Nat.{mul-zero}
use lib.Dec.{eqb, ltb}
use lib.ListN.{length, take, drop, get_or}
use borrow.Author.Tests.{eqb-true, eq-eqb, lt-ltb, le-ltb}
use Rattle.lbp16.specs.Space.{Space, registers, eeprom, status, information, absent, space_of, is_absent, row, info_row, area_row}
use Rattle.lbp16.specs.Word.{fields_of}
use Rattle.lbp16.specs.Pointer.{advanced, pointers_of, slot_of, space_slot}
use Rattle.lbp16.specs.declared.space.Row.{Row}
use Rattle.lbp16.specs.declared.word.Fields.{Fields}
use Rattle.lbp16.specs.declared.pointer.Pointers.{Pointers}
use Rattle.lbp16.proofs.PointerLaws.{slot_read}
use Rattle.packet.specs.Bytes.{number}
use Rattle.packet.specs.Step.{read, write, is_info, row_by, carried, answered}
use Rattle.packet.specs.Rules.{Rule, first, misaligned, any_step, barred}
use Rattle.packet.specs.Command.{fields_at, kind_of, row_of, header_bytes, command_bytes, address_by, address_used, stride, steps_at}
use Rattle.packet.specs.Command.{refusals, which_of, found, which_listed, found_listed}
use Rattle.packet.specs.Reach.{reach_from, reach_at}
use Rattle.packet.specs.Inside.{Ruled, JudgedAt, ForRegisters}
use Rattle.packet.specs.declared.command.Reach.{Reach}
use Rattle.packet.specs.declared.command.Which.{Which}
use Rattle.packet.specs.declared.refusal.Ruling.{Ruling}
use Rattle.lbp16.specs.declared.Rule.TheVariants.{WordCut}
use Rattle.lbp16.specs.Answer.{ruled}
use Rattle.std.specs.Prelude.{Err}
use Rattle.packet.proofs.ElementLaws.{carried-write, carried-read, answered-read, answered-write, barred_quick}

pub registers-word : (w : ℕ) (f : Fields) → f ≡ fields_of w → eqb (w / 256 % 64) 2 ≡ true → ForRegisters f
unfolding fields_of
registers-word w f e h =
    let q : w / 256 % 64 ≡ 2 = eqb-true _ _ h in
    let info : w / 8192 % 2 ≡ 0 = omega arith in
    let space : w / 1024 % 8 ≡ 0 = omega arith in
    let size : w / 256 % 4 ≡ 2 = omega arith in
    rw e (record { plain = rw info refl; space = space; size = size })

-- rules 7, 8, 11 and 12 of the table
abbrev pub register_rules : List Rule → List Rule
register_rules table = take 2 (drop 4 table) ++ drop 8 table

module _ (f : Fields) (h : ForRegisters f) where
  no_info : is_info (kind_of f) ≡ false
  unfolding is_info kind_of
  no_info = rw h.plain (go f.write)
    where
      go : (w : Bool) → is_info (cond w write read) ≡ false
      go true = refl
      go false = refl

  plain_row : row registers ≡ row_of f
  unfolding row_of row_by area_row space_of
  plain_row = rw (no_info, h.space) refl

  pub registers-row : row (space_of 0) ≡ row_of f
  unfolding space_of
  registers-row = plain_row

  pub registers-slot : 0 ≡ slot_of (is_info (kind_of f)) (space_of f.space)
  unfolding slot_of space_slot space_of
  registers-slot = rw (no_info, h.space) refl

  served : (f.info && f.write) ≡ false
  served = rw h.plain refl

  there : is_absent (space_of f.space) ≡ false
  unfolding is_absent space_of
  there = rw h.space refl

  sized : eqb f.size (row_of f).size ≡ true
  unfolding row
  sized = rw (← plain_row) (eq-eqb _ _ h.size)

  free : (p : Pointers) (rest : List ℕ) → any_step barred (steps_at p f rest) ≡ false
  unfolding row
  free p rest = rw (barred_quick, ← plain_row) (go (not (eqb f.count 0)))
    where
      go : (b : Bool) → (b && (ltb (address_used p f rest) 0 && f.write)) ≡ false
      go true = rw (le-ltb (address_used p f rest) 0 (omega arith)) refl
      go false = refl

  unlocked : (open? : Bool) → (f.write && (row_of f).locked && not open?) ≡ false
  unfolding row
  unlocked open? = rw (← plain_row) (go f.write)
    where
      go : (b : Bool) → (b && false && not open?) ≡ false
      go true = refl
      go false = refl

  -- rules 3, 4, 5, 6, 9 and 10 never hold of such a command whose header is whole
  pub registers-first : (p : Pointers) (open? : Bool) (reply : ℕ) (rest : List ℕ) → header_bytes f ≤ length rest
      → first (refusals p open? reply f rest) ≡ first (register_rules (refusals p open? reply f rest))
  unfolding refusals first
  registers-first p open? reply rest l = rw (le-ltb _ _ l, served, there, sized, free p rest, unlocked open?) refl

-- The parts of a command's reach.
module _ (f : Fields) where
  carried-is : cond f.write (f.count * (row_of f).element) 0 ≡ f.count * carried (kind_of f) (space_of f.space)
  carried-is = go f.write refl
    where
      go : (b : Bool) → f.write ≡ b → cond b (f.count * (row_of f).element) 0 ≡ f.count * carried (kind_of f) (space_of f.space)
      go true e = rw (carried-write f e) refl
      go false e = rw (carried-read f e) (sym (mul-zero _))

  answered-is : cond (not f.write) (f.count * (row_of f).element) 0 ≡ f.count * answered (kind_of f) (space_of f.space)
  answered-is = go f.write refl
    where
      go : (b : Bool) → f.write ≡ b
          → cond (not b) (f.count * (row_of f).element) 0 ≡ f.count * answered (kind_of f) (space_of f.space)
      go true e = rw (answered-write f e) (sym (mul-zero _))
      go false e = rw (answered-read f e) refl

  moved-is : cond f.increment (f.count * (row_of f).element) 0 ≡ f.count * stride f
  unfolding stride
  moved-is = go f.increment
    where
      go : (b : Bool) → cond b (f.count * (row_of f).element) 0 ≡ f.count * cond b (row_of f).element 0
      go true = refl
      go false = sym (mul-zero _)

  pub reach-is : (r : Row) (slot used header carries answers moves next : ℕ) → r ≡ row_of f
      → slot ≡ slot_of (is_info (kind_of f)) (space_of f.space) → header ≡ header_bytes f
      → carries ≡ cond f.write (f.count * r.element) 0 → answers ≡ cond (not f.write) (f.count * r.element) 0
      → moves ≡ cond f.increment (f.count * r.element) 0 → next ≡ advanced used moves
      → ◌≡◌ {A = Reach}
      (record { slot = slot; used = used; at = r.place + used; element = r.element; bytes = header + carries; answered = answers; next = next })
      (reach_from f used)
  unfolding reach_from command_bytes
  reach-is r slot used header carries answers moves next e₁ e₂ e₃ e₄ e₅ e₆ e₇ =
      rw (e₇, e₆, e₅, e₄, e₃, e₂, e₁, carried-is, answered-is, moved-is) refl

-- the address used, where it is given
pub address-at : (f : Fields) (rest : List ℕ) (pointer used : ℕ) → f.address ≡ true → used ≡ number (take 2 (drop 2 rest))
    → used ≡ address_by f rest pointer
address-at f rest pointer used t e = rw t e

-- the same from the pointer's slot
pub address_is : (f : Fields) (ps rest : List ℕ) (slot pointer used : ℕ) → slot ≡ slot_of (is_info (kind_of f)) (space_of f.space)
    → pointer ≡ cond (ltb slot 8) (get_or ps slot 0) 0 → used ≡ address_by f rest pointer
    → used ≡ address_used (pointers_of ps) f rest
unfolding address_used
address_is f ps rest slot pointer used e₁ e₂ e₃ =
    rw (e₃, e₂, e₁, slot_read ps (is_info (kind_of f)) (space_of f.space)) refl

-- an address against an element of 4 bytes, of 2, or of 1
misaligned-row : (i : Bool) (s : Space) (u : ℕ)
    → cond (eqb (area_row i s).element 4) (not (eqb (u % 4) 0)) (eqb (area_row i s).element 2 && not (eqb (u % 2) 0))
    ≡ misaligned (area_row i s) u
unfolding misaligned area_row info_row row
misaligned-row true s u = refl
misaligned-row false registers u = refl
misaligned-row false eeprom u = refl
misaligned-row false status u = refl
misaligned-row false information u = refl
misaligned-row false absent u = let q : u % 1 ≡ 0 = omega arith in rw q refl

pub misaligned_quick : (f : Fields) (r : Row) (u : ℕ) → r ≡ row_of f
    → cond (eqb r.element 4) (not (eqb (u % 4) 0)) (eqb r.element 2 && not (eqb (u % 2) 0)) ≡ misaligned (row_of f) u
unfolding row_of row_by
misaligned_quick f r u e = rw e (misaligned-row _ _ u)

-- a ruling from what the rules say and its reach
pub ruled-with : {p : Pointers} {open? : Bool} {reply : ℕ} {f : Fields} {rest : List ℕ} (r : Ruling) → r.reach ≡ reach_at p f rest
    → (r.reach ≡ reach_at p f rest → ruled r.rules ≡ first (refusals p open? reply f rest)) → Ruled p open? reply f rest r
ruled-with r e n = record { number = n e; reach = λ z. e }

-- a command whose header is cut off
pub cut_off : (p : Pointers) (open? : Bool) (reply : ℕ) (f : Fields) (rest : List ℕ) (r : Ruling) → length rest < header_bytes f
    → r.rules ≡ Err WordCut → Ruled p open? reply f rest r
unfolding refusals first
cut_off p open? reply f rest r h e =
    record { number = rw e (sym three); reach = λ z. absurd (let t : ◌≡◌ {A = ℕ} 3 0 = sym three ∙ z in omega arith) }
  where
    three : first (refusals p open? reply f rest) ≡ 3
    three = rw (lt-ltb _ _ h) refl

-- the slot of a command's pointer, from its info bit and its space
pub slot_is : (f : Fields) (i : Bool) (slot : ℕ) → i ≡ is_info (kind_of f) → slot ≡ slot_of i (space_of f.space)
    → slot ≡ slot_of (is_info (kind_of f)) (space_of f.space)
slot_is f i slot e h = h ∙ ap (λ (b : Bool). slot_of b (space_of f.space)) e

-- the reach of the command, once its address is found
pub reach-found : (f : Fields) (ps rest : List ℕ) (slot pointer used : ℕ) (r : Reach)
    → slot ≡ slot_of (is_info (kind_of f)) (space_of f.space) → pointer ≡ cond (ltb slot 8) (get_or ps slot 0) 0
    → used ≡ address_by f rest pointer → r ≡ reach_from f used → r ≡ reach_at (pointers_of ps) f rest
reach-found f ps rest slot pointer used r e₁ e₂ e₃ e₄ = e₄ ∙ ap (reach_from f) (address_is f ps rest slot pointer used e₁ e₂ e₃)

-- the command at the front
pub next-is : (ps rest : List ℕ) (f : Fields) (r : Reach) (w : ℕ) → fields_of w ≡ fields_at rest → f ≡ fields_of w
    → r ≡ reach_at (pointers_of ps) f rest → (f ≡ fields_at rest) × (r ≡ reach_at (pointers_of ps) (fields_at rest) rest)
next-is ps rest f r w e₁ e₂ e₃ = (e₂ ∙ e₁, e₃ ∙ ap (λ (g : Fields). reach_at (pointers_of ps) g rest) (e₂ ∙ e₁))

-- what is found at the command, from its ruling
pub judged-is : (p : Pointers) (o : Bool) (reply place : ℕ) (rest : List ℕ) (f : Fields) (r : Ruling) (x : Which)
    → f ≡ fields_at rest → Ruled p o reply f rest r → which_listed x place ≡ which_of (ruled r.rules) place (kind_of f)
    → JudgedAt p o reply place rest (record { found = record { fields = f; place = place; which = x }; reach = r.reach })
unfolding found found_listed
judged-is p o reply place rest f r x e₁ e₂ e₃ =
    let q : Ruled p o reply (fields_at rest) rest r = rw (← e₁) e₂ in
    record { found = rw (e₃, e₁, q.number) refl; reach = q.reach }
