-- Laws of the lines of commands: their values, their sizes, and how they are laid into a room.
use Prim.Native.Nat.{ℕ, zero, suc, ◌+◌, ◌-◌, ◌*◌, ◌≤◌, ◌<◌}
use mathlib.Core.Path.{◌≡◌, refl, sym, ap, ◌∙◌}
use mathlib.Core.List.{List, [], ◌∷◌, ◌++◌, append-nil}
use mathlib.Core.Bool.{Bool, true, false, cond}
use native.Mathlib.Omega.{arith}
use native.Mathlib.Nat.{suc-mul, zero-mul, add-zero, zero-add}
use native.Mathlib.Numerals.{sub-one}
use lib.Dec.{eqb}
use lib.ListN.{length, take, drop, set, length-append}
use lib.Seq.{sets, take_at, drop-drop}
use Rattle.lbp16.specs.Space.{registers, eeprom, status, information, absent, space_of, is_absent, row, area_row}
use Rattle.lbp16.specs.declared.word.Fields.{Fields}
use Rattle.packet.specs.Bytes.{number}
use Rattle.packet.specs.Step.{is_info, row_by, carried}
use Rattle.packet.specs.Command.{kind_of, row_of, header_bytes, command_bytes}
use Rattle.packet.proofs.CommandLaws.{header-some}
use Rattle.packet.proofs.ElementLaws.{carried-write, carried-read}
use Rattle.text.specs.Number.{ascii, hexadecimal}
use Rattle.text.specs.Line.{numbered}
use Rattle.text.specs.Room.{Filled, filled, put_at, text_left}
use Rattle.text.proofs.DecimalLaws.{decimal-length}
use Rattle.text.proofs.HexLaws.{hex_length}
use Rattle.text.proofs.LineLaws.{cond-length}
use Rattle.text.proofs.RoomLaws.{put_rest, put_front, put-room, left-within}
use Rattle.space_text.specs.SpaceText.{space_text}
use Rattle.space_text.proofs.SpaceTextLaws.{space-named, word_size}
use Rattle.packet_text.specs.Packet.{named_text, used_text, moved_text, values_text, written_text, line_by}
use Rattle.packet_text.specs.Inside.{laid_at, Plain}
use Rattle.packet_text.proofs.SizeLaws.{kind-few, address-few}

-- A number in four bytes is two in two bytes each.
pub four_bytes : (l : List ℕ) → number (take 2 l) + 65536 * number (take 2 (drop 2 l)) ≡ number (take 4 l)
unfolding number
four_bytes [] = omega arith
four_bytes (a ∷ []) = omega arith
four_bytes (a ∷ b ∷ []) = omega arith
four_bytes (a ∷ b ∷ c ∷ []) = omega arith
four_bytes (a ∷ b ∷ c ∷ d ∷ l) = omega arith

-- one value, and a turn of the loop over values
pub value-is : (e : ℕ) (bytes : List ℕ) → ascii " 0x" ++ hexadecimal (2 * e) (number (take e bytes)) ≡ values_text e 1 bytes
unfolding values_text
value-is e bytes = sym (append-nil _)

pub values-put : (e k from at : ℕ) (bytes room : List ℕ) {r : ℕ} {room₁ : List ℕ} → 0 < k
    → filled r room₁ ≡ put_at (values_text e 1 (drop from bytes)) at room
    → put_at (values_text e (k - 1) (drop (from + e) bytes)) r room₁ ≡ put_at (values_text e k (drop from bytes)) at room
unfolding values_text
values-put e zero from at bytes room h f = absurd (omega arith)
values-put e (suc k) from at bytes room h f =
    rw (sub-one, ← drop-drop e from bytes)
    (put_rest (ascii " 0x" ++ hexadecimal (2 * e) (number (take e (drop from bytes)))) (values_text e k (drop e (drop from bytes))) at room
    (rw append-nil at f))

-- The bytes of a write's element, by its space's number.
element-by : (n : ℕ) → is_absent (space_of n) ≡ false → (row (space_of n)).element ≡ cond (eqb n 0) 4 2
unfolding row is_absent space_of
element-by n = go (eqb n 0) (eqb n 2) (eqb n 6) (eqb n 7)
  where
    go : (a b c d : Bool) → is_absent (cond a registers (cond b eeprom (cond c status (cond d information absent)))) ≡ false
        → (row (cond a registers (cond b eeprom (cond c status (cond d information absent))))).element ≡ cond a 4 2
    go true b c d h = refl
    go false true c d h = refl
    go false false true d h = refl
    go false false false true h = refl
    go false false false false h = let z : ◌≡◌ {A = ℕ} 0 1 = cc in absurd (omega arith)

row_written : (f : Fields) → f.write ≡ true → (row_of f).element ≡ (row (space_of f.space)).element
unfolding row_of row_by is_info area_row kind_of
row_written f w = rw w refl

module _ (f : Fields) (rest : List ℕ) (there : is_absent (space_of f.space) ≡ false) where
  pub element-is : f.write ≡ true → (row_of f).element ≡ cond (eqb f.space 0) 4 2
  element-is w = row_written f w ∙ element-by f.space there

  pub write-is : f.write ≡ true
      → ascii ":" ++ values_text (cond (eqb f.space 0) 4 2) f.count (drop (header_bytes f) rest) ++ ascii "\n" ≡ written_text f rest
  unfolding written_text
  write-is w =
      ap (λ (e : ℕ). ascii ":" ++ values_text e f.count (drop (header_bytes f) rest) ++ ascii "\n") (sym (element-is w))
      ∙ ap (λ (b : Bool). cond b (ascii ":" ++ values_text (row_of f).element f.count (drop (header_bytes f) rest) ++ ascii "\n") (ascii "\n"))
      (sym w)

pub read_is : (f : Fields) (rest : List ℕ) → f.write ≡ false → ascii "\n" ≡ written_text f rest
unfolding written_text
read_is f rest w = rw w refl

-- The sizes of a line's parts.
values-size : (e n : ℕ) (bytes : List ℕ) → length (values_text e n bytes) ≡ n * (3 + 2 * e)
unfolding values_text ascii
values-size e zero bytes = rw zero-mul refl
values-size e (suc n) bytes =
    let i = values-size e n (drop e bytes) in
    let h = hex_length (2 * e) (number (take e bytes)) in
    let m : suc n * (3 + 2 * e) ≡ n * (3 + 2 * e) + (3 + 2 * e) = suc-mul _ _ in
    rw (length-append, length-append) (omega arith)

-- the longest line, and how much of it a command's bytes allow
abbrev line_most : ℕ
line_most = 86

module _ (place : ℕ) (f : Fields) (plain : Plain place f) where
  named-size : length (named_text place f) ≤ 30
  unfolding named_text numbered ascii
  named-size =
      let a = decimal-length 3 place (omega (arith, plain.0)) in
      let b = kind-few f in
      let c : length (space_text f.space) ≤ 11 = rw (space-named f.space plain.2) (word_size (space_of f.space)) in
      simp length-append (omega arith)

  used_size : (used : ℕ) → length (used_text f used) ≤ 27
  unfolding used_text ascii
  used_size used =
      let a = address-few used in
      let b = cond-length 21 f.address (ascii " 0x") (ascii " from the pointer (0x") (omega arith) (omega arith) in
      let c = cond-length 1 f.address (ascii "") (ascii ")") (omega arith) (omega arith) in
      simp length-append (omega arith)

  moved-size : length (moved_text f) ≤ 28
  unfolding moved_text numbered ascii
  moved-size =
      let a = decimal-length 2 f.count (omega (arith, plain.1)) in
      let b = cond-length 9 (eqb f.count 1) (ascii " element") (ascii " elements") (omega arith) (omega arith) in
      let c = cond-length 14 f.increment (ascii ", increment") (ascii ", no increment") (omega arith) (omega arith) in
      simp length-append (omega arith)

  line-parts : (used : ℕ) (rest : List ℕ) → length (line_by place f used rest) ≤ 85 + length (written_text f rest)
  unfolding line_by
  line-parts used rest =
      let a = named-size in
      let b = used_size used in
      let c = moved-size in
      simp length-append (omega arith)

  written-size : (rest : List ℕ) → f.write ≡ true
      → length (written_text f rest) ≡ 2 + f.count * (3 + 2 * cond (eqb f.space 0) 4 2)
  unfolding ascii
  written-size rest w =
      rw (sym (write-is f rest plain.2 w), length-append, length-append, values-size) (omega arith)

  line_read : (used : ℕ) (rest : List ℕ) → f.write ≡ false → length (line_by place f used rest) ≤ line_most
  unfolding ascii
  line_read used rest w =
      let a = line-parts used rest in
      let b : length (written_text f rest) ≡ 1 = rw (sym (read_is f rest w)) refl in
      omega arith

  line_write : (used : ℕ) (rest : List ℕ) (b : Bool) → eqb f.space 0 ≡ b → f.write ≡ true
      → (length (line_by place f used rest) ≤ 1536)
      × (length (line_by place f used rest) ≤ 44 * (header_bytes f + f.count * (row_of f).element))
  line_write used rest true q w =
      let a = line-parts used rest in
      let s : length (written_text f rest) ≡ 2 + f.count * 11 = rw q at (written-size rest w) in
      let e : (row_of f).element ≡ 4 = rw q at (element-is f rest plain.2 w) in
      let h = header-some f in
      let few = plain.1 in
      rw e (omega arith, omega arith)
  line_write used rest false q w =
      let a = line-parts used rest in
      let s : length (written_text f rest) ≡ 2 + f.count * 7 = rw q at (written-size rest w) in
      let e : (row_of f).element ≡ 2 = rw q at (element-is f rest plain.2 w) in
      let h = header-some f in
      let few = plain.1 in
      rw e (omega arith, omega arith)

  pub line-size : (used : ℕ) (rest : List ℕ)
      → (length (line_by place f used rest) ≤ 1536) × (length (line_by place f used rest) ≤ 44 * command_bytes f)
  unfolding command_bytes
  line-size used rest = go f.write refl
    where
      go : (b : Bool) → f.write ≡ b
          → (length (line_by place f used rest) ≤ 1536)
          × (length (line_by place f used rest) ≤ 44 * (header_bytes f + f.count * carried (kind_of f) (space_of f.space)))
      go true w = rw (carried-write f w) (line_write used rest (eqb f.space 0) refl w)
      go false w =
          let l = line_read used rest w in
          let h = header-some f in
          rw (carried-read f w) (omega arith, omega arith)

-- A text that stands in a room of its own, from which it is laid into another.
module _ (text before room : List ℕ) (n : ℕ) (e : filled n room ≡ put_at text 0 before) (fits : length text ≤ length before) where
  left : filled n room ≡ text_left text before
  left = e ∙ put_front text before fits

  pub own-bytes : n ≡ length text
  unfolding text_left
  own-bytes = ap (λ (x : Filled). x.next) left

  pub own-within : n ≤ length room
  own-within = left-within text before left

  own-text : take n room ≡ text
  unfolding text_left
  own-text = ap (λ (l : List ℕ). take n l) (ap (λ (x : Filled). x.room) left) ∙ take_at text _ n (sym own-bytes)

  pub own-laid : (at k : ℕ) (out after : List ℕ) → filled k after ≡ put_at (take n room) at out → after ≡ sets out at text
  own-laid at k out after p = put-room text out at (rw own-text at p)

-- A text laid behind another is laid with it.
sets_append : (l : List ℕ) (i : ℕ) (xs ys : List ℕ) → sets (sets l i xs) (i + length xs) ys ≡ sets l i (xs ++ ys)
sets_append l i [] ys = rw add-zero refl
sets_append l i (x ∷ xs) ys =
    let z : i + length (x ∷ xs) ≡ suc i + length xs = omega arith in
    rw z (sets_append (set l i x) (suc i) xs ys)

pub laid_then : (a b : List ℕ) (at : ℕ) (room room₁ : List ℕ) (n : ℕ) → n ≡ length a → room₁ ≡ sets room at a
    → laid_at b (at + n) room₁ ≡ laid_at (a ++ b) at room
unfolding laid_at
laid_then a b at room room₁ n e f =
    let z : at + length a + length b ≡ at + length (a ++ b) = rw length-append (omega arith) in
    rw (e, f, sets_append room at a b, z) refl

pub laid_none : (at : ℕ) (room : List ℕ) → filled at room ≡ laid_at [] at room
unfolding laid_at
laid_none at room = rw add-zero refl

-- what is told of a text laid at the front, and what then stands there
module _ (text room room₁ : List ℕ) (n : ℕ) (e : filled n room₁ ≡ laid_at text 0 room) where
  pub laid-bytes : n ≡ length text
  unfolding laid_at
  laid-bytes = let a : n ≡ 0 + length text = ap (λ (x : Filled). x.next) e in omega arith

  pub laid-room : room₁ ≡ sets room 0 text
  unfolding laid_at
  laid-room = ap (λ (x : Filled). x.room) e

pub laid_both : (a b room room₁ room₂ : List ℕ) (k n : ℕ) → k ≡ length a → room₁ ≡ sets room 0 a → n ≡ length b → room₂ ≡ sets room₁ k b
    → filled (k + n) room₂ ≡ laid_at (a ++ b) 0 room
unfolding laid_at
laid_both a b room room₁ room₂ k n q f m o =
    let z : length a + length b ≡ 0 + length (a ++ b) = rw length-append (omega arith) in
    rw (o, f, q, m, ← sets_append room 0 a b, ← z, zero-add) refl
