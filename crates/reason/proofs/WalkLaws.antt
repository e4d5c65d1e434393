-- The walk over a packet's commands, up to the one that the check refuses: where it stands between two of them.
use Prim.Native.Nat.{ℕ, zero, suc, ◌+◌, ◌*◌, ◌-◌, ◌≤◌, ◌<◌}
use mathlib.Core.Path.{◌≡◌, refl, sym, ap, ◌∙◌}
use mathlib.Core.List.{List}
use native.Mathlib.Omega.{arith}
use lib.ListN.{length, drop, length-drop}
use lib.Seq.{drop-drop}
use Rattle.lbp16.specs.Space.{space_of}
use Rattle.lbp16.specs.Pointer.{advanced, with_pointer}
use Rattle.lbp16.specs.declared.pointer.Pointers.{Pointers}
use Rattle.packet.specs.Step.{is_info}
use Rattle.packet.specs.Command.{fields_at, kind_of, command_bytes, stride, pointers_after}
use Rattle.packet.specs.Judge.{Carried, refused, begin, carry, judge}
use Rattle.packet.proofs.CommandLaws.{command-some, advanced_used}
use Rattle.packet.proofs.JudgeLaws.{PassedNext}
use Rattle.packet.proofs.RefusalLaws.{Reaches, here, past, behind, refused-in_table}
use Rattle.reason.specs.Reason.{place_after, header_at, commands_from, commands_before, pointers_left, pointers_at, named}
use Rattle.reason.specs.declared.Reason.{Reason}
use Rattle.reason.specs.declared.reader.Header.{Header}
use Rattle.reason.proofs.FrontLaws.{front-reached, reaches-next}

-- Up to a later place there are the commands passed and those from here on.
pub record Counted (packet : List ℕ) (place index t : ℕ) : Type 0 where
  pub fuel : ℕ
  pub enough : t - place ≤ fuel
  pub same : commands_before t packet ≡ index + commands_from fuel (t - place) (drop place packet)

-- All commands before the place pass, and so do those from there to the place t.
pub record Walking (p : Pointers) (packet : List ℕ) (t : ℕ) (pointers : Pointers) (place index : ℕ) : Type 0 where
  pub carried : Carried
  pub end : Carried
  pub left : List ℕ
  pub reached : Reaches (begin p) packet carried (drop place packet)
  pub onward : Reaches carried (drop place packet) end left
  pub at : carried.place ≡ place
  pub to : end.place ≡ t
  pub pointed : pointers ≡ carried.pointers
  pub counted : Counted packet place index t
  pub few : index ≤ place

pub walking_begin : (p : Pointers) (packet : List ℕ) (n t : ℕ) → judge p packet ≡ refused n t → Walking p packet t p 0 0
unfolding commands_before begin
walking_begin p packet n t e =
    let r = refused-in_table p packet n t e in
    let z : t - 0 ≡ t = omega arith in
    record {
      carried = begin p;
      end = r.at;
      left = r.rest;
      reached = here;
      onward = r.before;
      at = refl;
      to = r.at_place;
      pointed = refl;
      counted = record { fuel = t; enough = omega arith; same = rw z (omega arith) };
      few = omega arith;
    }

-- one command counted
record One (n k fuel : ℕ) (rest : List ℕ) : Type 0 where
  left : ℕ
  enough : n - k ≤ left
  same : commands_from fuel n rest ≡ 1 + commands_from left (n - k) (drop k rest)

counted-one : (fuel n k : ℕ) (rest : List ℕ) → 1 ≤ n → n ≤ fuel → k ≡ command_bytes (fields_at rest) → 2 ≤ k → One n k fuel rest
unfolding commands_from
counted-one zero n k rest l m e s = absurd (omega arith)
counted-one (suc fuel) zero k rest l m e s = absurd (omega arith)
counted-one (suc fuel) (suc n) k rest l m e s = record { left = fuel; enough = omega arith; same = rw e refl }

counted_next : (packet : List ℕ) (place index t k after : ℕ) → after ≡ place + k → after ≤ t
    → k ≡ command_bytes (fields_at (drop place packet)) → 2 ≤ k → Counted packet place index t → Counted packet after (index + 1) t
counted_next packet place index t k after q l e s h =
    go h.enough (counted-one h.fuel (t - place) k (drop place packet) (omega arith) h.enough e s)
  where
    shift : (a b : ℕ) → a + (1 + b) ≡ a + 1 + b
    shift a b = omega arith

    go : t - place ≤ h.fuel → One (t - place) k h.fuel (drop place packet) → Counted packet after (index + 1) t
    go m o =
        let z : t - (place + k) ≡ t - place - k = omega arith in
        record {
          fuel = o.left;
          enough = rw (q, z) o.enough;
          same = rw (q, z, ← drop-drop k place packet) (h.same ∙ (rw o.same (shift index _)));
        }

-- Commands lie behind each other.
no_further : {c end : Carried} {rest left : List ℕ} → Reaches c rest end left → c.place ≤ end.place
unfolding carry
no_further here = omega arith
no_further (past n r) = let h = no_further r in omega arith

-- before the last command reached there is one that passes
passes-here : {c end : Carried} {rest left : List ℕ} → Reaches c rest end left → c.place < end.place
    → PassedNext c rest × Reaches (carry c rest) (behind rest) end left
passes-here here l = absurd (omega arith)
passes-here (past n r) l = (n, r)

-- the pointers after a command, as the code finds them
abbrev pub pointers_by : Pointers → Header → Pointers
pointers_by p h =
    let f = h.fields in
    with_pointer p (is_info (kind_of f)) (space_of f.space) (advanced h.address (f.count * stride f))

pointers-next : (c : Carried) (rest : List ℕ) → PassedNext c rest → (p q : Pointers) (h : Header) → p ≡ c.pointers
    → h ≡ header_at p rest → q ≡ pointers_by p h → q ≡ (carry c rest).pointers
unfolding carry pointers_after header_at
pointers-next c rest n p q h e₁ e₂ e₃ = e₃ ∙ rw (e₂, e₁, advanced_used _ _ _ (fields_at rest) rest n) refl

-- as the code has it: the command's parts by equations
pub record Stepped (p : Pointers) (packet : List ℕ) (t : ℕ) (pointers : Pointers) (place after index : ℕ) : Type 0 where
  pub further : place < after
  pub within : after ≤ t
  pub again : Walking p packet t pointers after (index + 1)

pub walking_step : {p : Pointers} {packet : List ℕ} {t : ℕ} {pointers : Pointers} {place index : ℕ}
    → Walking p packet t pointers place index → place < t → (h : Header) (k after : ℕ) (q : Pointers)
    → h ≡ header_at pointers (drop place packet) → k ≡ command_bytes h.fields
    → q ≡ pointers_by pointers h → after ≡ place_after packet place k → Stepped p packet t q place after index
unfolding carry header_at place_after
walking_step {packet = packet} {t = t} {pointers = pointers} {place = place} {index = index} w l h k after q e₁ e₂ e₃ e₄ =
    let rest = drop place packet in
    let a = w.at in
    let b = w.to in
    let few = w.few in
    let (passes, onward) = passes-here w.onward (omega arith) in
    let k-is : k ≡ command_bytes (fields_at rest) = e₂ ∙ ap (λ (x : Header). command_bytes x.fields) e₁ in
    let two = command-some (fields_at rest) in
    let whole : command_bytes (fields_at rest) ≤ length packet - place = rw (length-drop place packet) at passes.whole in
    let s : after ≡ place + k = omega arith in
    let d : drop after packet ≡ behind rest = rw (s, k-is) (sym (drop-drop (command_bytes (fields_at rest)) place packet)) in
    let within = no_further onward in
    record {
      further = omega arith;
      within = omega arith;
      again =
          record {
            carried = carry w.carried rest;
            end = w.end;
            left = w.left;
            reached = rw d (reaches-next w.reached passes);
            onward = rw d onward;
            at = omega arith;
            to = b;
            pointed = pointers-next w.carried rest passes pointers q h w.pointed e₁ e₃;
            counted = counted_next packet place index t k after s (omega arith) k-is (omega arith) w.counted;
            few = omega arith;
          };
    }

-- At the place itself all commands before it are counted.
counted_none : (f n : ℕ) (rest : List ℕ) → n ≡ 0 → commands_from f n rest ≡ 0
unfolding commands_from
counted_none zero n rest e = refl
counted_none (suc f) zero rest e = refl
counted_none (suc f) (suc n) rest e = absurd (omega arith)

counted-here : {packet : List ℕ} {place index : ℕ} → Counted packet place index place → commands_before place packet ≡ index
counted-here {place = place} h = h.same ∙ rw (counted_none h.fuel (place - place) _ (omega arith)) (omega arith)

-- the pointers there are those that the bytes before it leave
pointers-here : {p : Pointers} {packet : List ℕ} {t : ℕ} {pointers : Pointers} {place index : ℕ}
    → Walking p packet t pointers place index → pointers ≡ pointers_at p packet place
unfolding pointers_at pointers_left
pointers-here {p = p} {packet = packet} w = w.pointed ∙ rw (sym w.at, front-reached p packet w.reached) refl

pub walking_end : {p : Pointers} {packet : List ℕ} {t : ℕ} {pointers : Pointers} {place index : ℕ}
    → Walking p packet t pointers place index → t ≤ place → (n : ℕ) (h : Header) → h ≡ header_at pointers (drop place packet)
    → ◌≡◌ {A = Reason} (record { number = n; place = t; index = index; fields = h.fields; address = h.address })
    (named p packet n t)
unfolding named header_at
walking_end {p = p} {packet = packet} {t = t} {place = place} {index = index} w l n h e =
    let a = w.at in
    let b = w.to in
    let within = no_further w.onward in
    let q : place ≡ t = omega arith in
    let counted : commands_before t packet ≡ index = counted-here (rw q at w.counted) in
    rw (e, pointers-here w, q, counted) refl
