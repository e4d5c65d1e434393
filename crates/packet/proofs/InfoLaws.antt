-- Laws of info reads: what they show, and what they leave alone.
use Prim.Native.Nat.{ℕ, zero, suc, ◌+◌, ◌≤◌}
use mathlib.Core.Path.{◌≡◌, refl}
use mathlib.Core.List.{List, [], ◌∷◌}
use mathlib.Core.Bool.{Bool, true, false, cond}
use lib.ListN.{length, replicate}
use native.Mathlib.Omega.{arith}
use Rattle.lbp16.specs.Space.{Space, space_of, is_absent, info_row, store_bytes}
use Rattle.lbp16.specs.Info.{area_words}
use Rattle.lbp16.specs.Pointer.{pointer_of, with_pointer}
use Rattle.lbp16.specs.declared.word.Fields.{Fields}
use Rattle.lbp16.specs.declared.pointer.Pointers.{Pointers}
use Rattle.packet.specs.Bytes.{bytes_of, pairs_of}
use Rattle.packet.specs.Step.{Kind, read, write, infoRead, Step, is_info, carried, source, stored, after, seen}
use Rattle.packet.specs.Command.{kind_of, row_of, payload, elements, bytes_of_area, handed, steps_at, pointers_after}
use Rattle.packet.specs.Judge.{Carried, accepted, begin, carry, judge}
use Rattle.packet.proofs.StoreLaws.{AllWhole, whole_append, source-end}
use Rattle.packet.proofs.RefusalLaws.{all-passed, reaches_keeps}

-- An info read leaves the store, and answers the same from every store.
pub info_keeps : (s : Step) (store : List ℕ) → s.kind ≡ infoRead → after s store ≡ store
unfolding after stored
info_keeps s store e = rw e

pub info-alone : (s : Step) (store other : List ℕ) → s.kind ≡ infoRead → seen s store ≡ seen s other
unfolding seen source
info-alone s store other e = rw e

-- It moves no plain pointer, and a plain command no info pointer.
pub info_moves : (p : Pointers) (f : Fields) (rest : List ℕ) → is_info (kind_of f) ≡ true
    → (pointers_after p f rest).plain ≡ p.plain
unfolding pointers_after with_pointer
info_moves p f rest e = rw e

pub plain_moves : (p : Pointers) (f : Fields) (rest : List ℕ) → is_info (kind_of f) ≡ false
    → (pointers_after p f rest).info ≡ p.info
unfolding pointers_after with_pointer
plain_moves p f rest e = rw e

-- What it is handed depends on nothing but the space and its plain pointer.
pub area_alone : (p q : Pointers) (f : Fields) (rest other : List ℕ) → is_info (kind_of f) ≡ true
    → pointer_of p false (space_of f.space) ≡ pointer_of q false (space_of f.space) → handed p f rest ≡ handed q f other
unfolding handed
area_alone p q f rest other e h = rw (e, h)

-- An area has 16 bytes,
pub area_length : (s : Space) (n : ℕ) → length (bytes_of_area s n) ≡ info_row.bytes
unfolding bytes_of_area area_words pairs_of bytes_of info_row
area_length s n = go (is_absent s) _ _ _ _
  where
    go : (b : Bool) (cookie sizes ranges pointer : ℕ)
        → length (pairs_of (cond b (replicate 8 0) (cookie ∷ sizes ∷ ranges ∷ pointer ∷ 0 ∷ 0 ∷ 0 ∷ 0 ∷ []))) ≡ info_row.bytes
    go true cookie sizes ranges pointer = refl
    go false cookie sizes ranges pointer = refl

-- and every info read has a whole one.
elements-whole : (k : Kind) (s : Space) (n a d : ℕ) (bytes : List ℕ) → (is_info k ≡ true → length bytes ≡ info_row.bytes)
    → AllWhole (elements k s n a d bytes)
unfolding elements payload carried is_info
elements-whole k s zero a d bytes h = tt
elements-whole read s (suc n) a d bytes h =
    (λ e. let z : ◌≡◌ {A = ℕ} 0 1 = cc in absurd (omega arith), elements-whole read s n (a + d) d bytes h)
elements-whole write s (suc n) a d bytes h = (
  λ e. let z : ◌≡◌ {A = ℕ} 0 1 = cc in absurd (omega arith),
  elements-whole write s n (a + d) d _ (λ e. let z : ◌≡◌ {A = ℕ} 0 1 = cc in absurd (omega arith)),
)
elements-whole infoRead s (suc n) a d bytes h = (h, elements-whole infoRead s n (a + d) d bytes h)

-- plain elements are no info reads
pub plain-whole : (k : Kind) (s : Space) (n a d : ℕ) (bytes : List ℕ) → is_info k ≡ false → AllWhole (elements k s n a d bytes)
plain-whole k s n a d bytes p =
    elements-whole k s n a d bytes (λ e. let z : ◌≡◌ {A = ℕ} 0 1 = cc in absurd (omega arith))

-- What a command's elements are read from reaches to the end of its space or area.
pub source-whole : (p : Pointers) (f : Fields) (rest store : List ℕ) → length store ≡ store_bytes
    → (row_of f).place + (row_of f).bytes ≤ length (source (kind_of f) (handed p f rest) store)
unfolding row_of handed
source-whole p f rest store e = source-end _ _ _ store e (λ i. rw i (area_length _ _))

pub command-whole : (p : Pointers) (f : Fields) (rest : List ℕ) → AllWhole (steps_at p f rest)
unfolding steps_at handed
command-whole p f rest = elements-whole _ _ _ _ _ _ (λ e. rw e (area_length _ _))

pub accepted-whole : (p : Pointers) (packet : List ℕ) (end : Carried) → judge p packet ≡ accepted end → AllWhole end.steps
unfolding begin carry
accepted-whole p packet end e =
    reaches_keeps (λ c _. AllWhole c.steps) (λ c rest n h. whole_append c.steps _ h (command-whole _ _ rest))
    (all-passed p packet end e)
    tt
