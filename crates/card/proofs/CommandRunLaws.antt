-- A command that the check let pass, done: what moving its elements asks, and that it does the command's steps.
use Prim.Native.Nat.{ℕ, ◌+◌, ◌-◌, ◌*◌, ◌≤◌}
use mathlib.Core.Path.{◌≡◌, refl, sym, ◌∙◌}
use mathlib.Core.List.{List, [], ◌++◌, append-nil}
use mathlib.Core.Bool.{true, false, cond}
use native.Mathlib.Omega.{arith}
use native.Mathlib.Nat.{le_refl, le_trans}
use lib.ListN.{length, take, drop, get_or, length-drop, drop_of_length-le, take-append-drop}
use lib.Dec.{ltb}
use Rattle.lbp16.specs.Space.{space_of, area_row, store_bytes}
use Rattle.lbp16.specs.Pointer.{pointer_of, pointers_of, slot_of}
use Rattle.lbp16.proofs.PointerLaws.{slot_read}
use Rattle.packet.specs.Reach.{reach_from, reach_at}
use Rattle.packet.specs.declared.command.Reach.{Reach}
use Rattle.lbp16.specs.declared.pointer.Pointers.{Pointers}
use Rattle.lbp16.specs.declared.word.Fields.{Fields}
use Rattle.lbp16.proofs.SpaceLaws.{row-end}
use Rattle.packet.proofs.SliceLaws.{tail-whole}
use Rattle.packet.specs.Step.{Kind, read, write, infoRead, is_info, row_by, answered, source, store_after}
use Rattle.packet.specs.Step.{values_read}
use Rattle.packet.proofs.ElementLaws.{write-kind, row_le, carried-write, answered-read}
use Rattle.packet.proofs.InfoLaws.{source-whole}
use Rattle.packet.specs.Command.{kind_of, row_of, header_bytes, command_bytes, stride, bytes_of_area}
use Rattle.packet.specs.Command.{handed, steps_at}
use Rattle.packet.proofs.CommandLaws.{stride_le}
use Rattle.packet.specs.Inside.{Passed}
use Rattle.card.specs.Inside.{IsWidth, LetPass, Within, moved, laid, span_at}
use Rattle.card.specs.declared.run.Span.{Span}
use Rattle.card.proofs.CopyLaws.{within_block}
use Rattle.card.proofs.StepBlockLaws.{element-wide, within-bytes, writes-done, writes-read_nothing}
use Rattle.card.proofs.StepBlockLaws.{reads_keep, reads-done}

kind-write : (f : Fields) → f.write ≡ true → kind_of f ≡ write
unfolding kind_of
kind-write f e = rw e refl

-- A plain command is read from the store, an info read from the area made of its space's plain pointer.
plain-source : (k : Kind) (bs store : List ℕ) → is_info k ≡ false → store ≡ source k bs store
unfolding source is_info
plain-source read bs store e = refl
plain-source write bs store e = refl
plain-source infoRead bs store e = let z : ◌≡◌ {A = ℕ} 0 1 = cc in absurd (omega arith)

info-source : (k : Kind) (bs store : List ℕ) → is_info k ≡ true → bs ≡ source k bs store
unfolding source is_info
info-source read bs store e = let z : ◌≡◌ {A = ℕ} 0 1 = cc in absurd (omega arith)
info-source write bs store e = let z : ◌≡◌ {A = ℕ} 0 1 = cc in absurd (omega arith)
info-source infoRead bs store e = refl

pub from-store : (p : Pointers) (f : Fields) (rest store : List ℕ) → is_info (kind_of f) ≡ false
    → store ≡ source (kind_of f) (handed p f rest) store
from-store p f rest store e = plain-source (kind_of f) _ store e

pub from_area : (p : Pointers) (f : Fields) (rest store area : List ℕ) (n : ℕ) → is_info (kind_of f) ≡ true
    → n ≡ pointer_of p false (space_of f.space) → area ≡ bytes_of_area (space_of f.space) n
    → area ≡ source (kind_of f) (handed p f rest) store
unfolding handed
from_area p f rest store area n e q a = rw (← info-source (kind_of f) (handed p f rest) store e, e, a, q) refl

-- the plain pointer of a space, from its slot
pub plain-pointer : (ps : List ℕ) (n slot : ℕ) → slot ≡ slot_of false (space_of n)
    → cond (ltb slot 8) (get_or ps slot 0) 0 ≡ pointer_of (pointers_of ps) false (space_of n)
plain-pointer ps n slot e = rw e (slot_read ps false (space_of n))

-- where a command's elements stand, from its reach
pub span-is : (f : Fields) (r : Reach) (step : ℕ) → step ≡ cond f.increment r.element 0 → (p : Pointers) (rest : List ℕ)
    → r ≡ reach_at p f rest
    → ◌≡◌ {A = Span} (record { at = r.at; step = step; element = r.element; count = f.count }) (span_at p f rest)
unfolding reach_from span_at stride
span-is f r step e p rest h = rw (e, h) refl

-- the bytes that a command's elements are moved in

-- What moving the elements asks of the list that holds them d apart, and of one that holds them in a row.
pub record Asked (n w i d bytes j line : ℕ) : Type 0 where
  pub step : d ≤ 4
  pub width : IsWidth w
  pub spread : Within n i d w bytes
  pub lined : Within n j w w line

module _ (p : Pointers) (f : Fields) (rest : List ℕ) (pass : LetPass p f rest) (s : Span) (e : s ≡ span_at p f rest) where
  h : Passed p pass.open? pass.reply f rest
  h = pass.passed

  wide : IsWidth (row_of f).element
  unfolding row_of row_by
  wide = sym (element-wide _ _ h.present)

  asked : (bytes j line : ℕ) → (row_of f).place + (row_of f).bytes ≤ bytes → j + f.count * (row_of f).element ≤ line
      → Asked s.count s.element s.at s.step bytes j line
  unfolding steps_at span_at row_of
  asked bytes j line b l =
      rw e
      (record {
        step = le_trans (stride_le f) (row_le f);
        width = wide;
        spread = within-bytes _ _ _ _ _ _ _ h.inside b;
        lined = within_block _ _ _ _ l;
      })

  -- `src` is what the command is read from
  module _ (store src tail : List ℕ) (k : f.write ≡ false) (b : length store ≡ store_bytes)
      (l : f.count * answered (kind_of f) (space_of f.space) ≤ length tail)
      (q : src ≡ source (kind_of f) (handed p f rest) store) where
    fits : f.count * (row_of f).element ≤ length tail
    fits = rw (answered-read f k) at l

    pub read_asked : Asked s.count s.element s.at s.step (length src) 0 (length tail)
    read_asked = asked (length src) 0 (length tail) (rw q (source-whole _ f rest store b)) (omega (arith, fits))

    pub read_done : (out : List ℕ)
        → out ≡ moved s.count s.element src s.at s.step tail 0 s.element
        → out ≡ values_read (steps_at p f rest) store
        ++ drop (length (values_read (steps_at p f rest) store)) tail
    unfolding steps_at span_at row_of
    read_done out o =
        let (count, same) =
        reads-done (kind_of f) (space_of f.space) (write-kind f ∙ k) f.count _ _ (handed p f rest) store [] tail
        (rw (e, q) at read_asked.spread)
        fits in
        rw count (o ∙ rw (e, q) same)

  module _ (hd : ℕ) (k : f.write ≡ true) (q : hd ≡ header_bytes f) where
    pub write-asked : (bytes : ℕ) → bytes ≡ store_bytes
        → Asked s.count s.element s.at s.step bytes hd (length rest)
    unfolding command_bytes row_of row_by is_info area_row
    write-asked bytes b =
        asked bytes hd (length rest) (rw (b, kind-write f k) (row-end (space_of f.space)))
        (rw q (rw (carried-write f k) at h.whole))

    pub write_done : (store out : List ℕ) → out ≡ moved s.count s.element rest hd s.element store s.at s.step
        → out ≡ store_after (steps_at p f rest) store
    unfolding steps_at span_at handed row_of row_by is_info area_row
    write_done store out o = rw (kind-write f k) (o ∙ rw (e, q, kind-write f k) (writes-done _ _ _ _ _ rest store))

-- A read leaves the store, and a write reads nothing.
pub read_keeps : (p : Pointers) (f : Fields) (rest store : List ℕ) → f.write ≡ false
    → store_after (steps_at p f rest) store ≡ store
unfolding steps_at
read_keeps p f rest store e = reads_keep _ _ (write-kind f ∙ e) _ _ _ _ store

pub write-reads : (p : Pointers) (f : Fields) (rest store : List ℕ) → f.write ≡ true
    → values_read (steps_at p f rest) store ≡ []
unfolding steps_at
write-reads p f rest store e = rw (kind-write f e) (writes-read_nothing _ _ _ _ _ store)

-- A lent tail that came back with values at its front, and one to which nothing was put.
pub laid-back : (n : ℕ) (d ys vs : List ℕ) → ys ≡ vs ++ drop (length vs) (take (length d - n) (drop n d))
    → take n d ++ (ys ++ drop (length d - n) (drop n d)) ≡ laid n vs d
unfolding laid
laid-back n d ys vs e =
    let rest : drop (length d - n) (drop n d) ≡ [] =
    drop_of_length-le (drop n d) {i = length d - n} (rw length-drop (le_refl _)) in
    rw (rest, append-nil, e, tail-whole) refl

pub laid_none : (n : ℕ) (d vs : List ℕ) → vs ≡ [] → d ≡ laid n vs d
unfolding laid
laid_none n d vs e = rw e (sym (take-append-drop n d))
