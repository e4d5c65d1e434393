-- A packet that uses no pointer before it sets it does not depend on the pointers that it starts from.
use Prim.Native.Nat.{ℕ, zero, suc, ◌≤◌}
use mathlib.Core.Path.{◌≡◌, refl, sym, ap, ◌∙◌}
use mathlib.Core.Logic.{◌≢◌}
use mathlib.Core.List.{List, [], ◌∷◌}
use mathlib.Core.Bool.{Bool, true, false, not, ◌&&◌, ◌||◌, cond}
use native.Mathlib.Omega.{arith}
use lib.Dec.{eqb, ltb}
use lib.ListN.{length, take, drop}
use borrow.Author.Tests.{eqb-true, eq-eqb, ltb-false, le-ltb}
use Rattle.lbp16.specs.Space.{Space, registers, eeprom, status, information, absent, space_of, space_number, is_absent, row}
use Rattle.lbp16.specs.Pointer.{fresh, of_space, with_space, pointer_of, with_pointer}
use Rattle.lbp16.specs.declared.word.Fields.{Fields}
use Rattle.lbp16.specs.declared.pointer.Pointers.{Pointers}
use Rattle.lbp16.proofs.BoolLaws.{or_false}
use Rattle.lbp16.proofs.PointerLaws.{with_pointer-other}
use Rattle.packet.specs.Bytes.{number}
use Rattle.packet.specs.Step.{Step, is_info}
use Rattle.packet.specs.Rules.{misaligned, any_step}
use Rattle.packet.specs.Command.{limit, fields_at, kind_of, row_of, command_bytes, address_used, handed, steps_at, pointers_after}
use Rattle.packet.specs.Judge.{Carried, accepted, begin, carry, judge_from, judge}
use Rattle.packet.specs.Judge
use Rattle.packet.proofs.StepLaws.{row_plain}
use Rattle.packet.specs.Inside.{Passed}
use Rattle.packet.proofs.JudgeLaws.{PassedNext, onward, judged-past, accepted-past, pointers-kept}
use Rattle.cue.proofs.PackingLaws.{space-again}
use Rattle.cue.proofs.Relations.{Does}
use Rattle.tight.specs.Tight.{none, steps, done_by, info_step, plain_only, packet_does}
use Rattle.tight.specs.Unset.{among, uses_from, uses_unset}
use Rattle.tight.specs.Inside.{unset_address, unset_spaces, unset, from_unset}
use Rattle.tight.proofs.AcceptedLaws.{plain-next, info-same}

-- no info read among the steps
abbrev pub NoInfo : List Step → Type 0
NoInfo ss = any_step info_step ss ≡ false

same-space : (s t : Space) → eqb (space_number s) (space_number t) ≡ true → s ≡ t
same-space s t e =
    let number : space_number s ≡ space_number t = eqb-true _ _ e in
    sym (space-again s) ∙ ap space_of number ∙ space-again t

other-space : (s t : Space) → eqb (space_number s) (space_number t) ≡ false → t ≢ s
other-space s t e q = let z : ◌≡◌ {A = ℕ} 0 1 = cc (eq-eqb (space_number s) (space_number t) (rw q)) in omega arith

-- The pointers agree on the spaces that are set.
abbrev Agree : List Space → Pointers → Pointers → Type 0
Agree set p q = (s : Space) → among s set ≡ true → pointer_of p false s ≡ pointer_of q false s

-- those of the spaces not set are still as `unset` has them
abbrev Unset : List Space → Pointers → Type 0
Unset set p = (s : Space) → is_absent s ≡ false → among s set ≡ false → pointer_of p false s ≡ unset_address

-- Setting one more keeps both.
set-alike : (p q : Pointers) (s : Space) (n : ℕ)
    → pointer_of (with_pointer p false s n) false s ≡ pointer_of (with_pointer q false s n) false s
unfolding pointer_of with_pointer of_space with_space
set-alike p q registers n = refl
set-alike p q eeprom n = refl
set-alike p q status n = refl
set-alike p q information n = refl
set-alike p q absent n = refl

agree_on : (set : List Space) (p q : Pointers) (t : Space) (n : ℕ) → Agree set p q
    → Agree (t ∷ set) (with_pointer p false t n) (with_pointer q false t n)
unfolding among
agree_on set p q t n h s = go (eqb (space_number s) (space_number t)) refl
  where
    go : (b : Bool) → eqb (space_number s) (space_number t) ≡ b → (b || among s set) ≡ true
        → pointer_of (with_pointer p false t n) false s ≡ pointer_of (with_pointer q false t n) false s
    go true e a = rw (same-space s t e) (set-alike p q t n)
    go false e a =
        let other = other-space s t e in
        with_pointer-other p false false t s n (λ _. other) ∙ h s a ∙ sym (with_pointer-other q false false t s n (λ _. other))

unset-on : (set : List Space) (p : Pointers) (t : Space) (n : ℕ) → Unset set p → Unset (t ∷ set) (with_pointer p false t n)
unfolding among
unset-on set p t n h s present a =
    let (e, a) = or_false (eqb (space_number s) (space_number t)) (among s set) a in
    with_pointer-other p false false t s n (λ _. other-space s t e) ∙ h s present a

-- it is no multiple of an element size
unset-misaligned : (s : Space) → is_absent s ≡ false → misaligned (row s) unset_address ≡ true
unfolding misaligned row is_absent
unset-misaligned registers e = refl
unset-misaligned eeprom e = refl
unset-misaligned status e = refl
unset-misaligned information e = refl
unset-misaligned absent e = let z : ◌≡◌ {A = ℕ} 0 1 = cc in absurd (omega arith)

-- A plain command from two pointers: where its address used is the same, all that the check finds at it is.
module _ (p q : Pointers) (f : Fields) (rest : List ℕ) (plain : is_info (kind_of f) ≡ false) where
  used_alike : (f.address ≡ false → pointer_of p false (space_of f.space) ≡ pointer_of q false (space_of f.space))
      → address_used p f rest ≡ address_used q f rest
  unfolding address_used
  used_alike h = rw plain (go f.address refl)
    where
      go : (b : Bool) → f.address ≡ b
          → cond b (number (take 2 (drop 2 rest))) (pointer_of p false (space_of f.space))
          ≡ cond b (number (take 2 (drop 2 rest))) (pointer_of q false (space_of f.space))
      go true e = refl
      go false e = h e

  steps_alike : address_used p f rest ≡ address_used q f rest → steps_at p f rest ≡ steps_at q f rest
  unfolding steps_at handed
  steps_alike e = rw (e, plain) refl

  passes-alike : {open? : Bool} {reply : ℕ} → address_used p f rest ≡ address_used q f rest → Passed p open? reply f rest
      → Passed q open? reply f rest
  passes-alike e h =
      let s = steps_alike e in
      record {
        header = h.header;
        served = h.served;
        present = h.present;
        sized = h.sized;
        some = h.some;
        aligned = rw (← e) h.aligned;
        inside = rw (← s) h.inside;
        allowed = rw (← s) h.allowed;
        unlocks = h.unlocks;
        whole = h.whole;
        answers = h.answers;
      }

-- the space is set where a command has no address and uses no unset pointer
set_before : (a m : Bool) → (not a && not m) ≡ false → a ≡ false → m ≡ true
set_before true m h e = let z : ◌≡◌ {A = ℕ} 0 1 = cc in absurd (omega arith)
set_before false true h e = refl
set_before false false h e = let z : ◌≡◌ {A = ℕ} 0 1 = cc in absurd (omega arith)

-- The check past a command that passes.
past-on : (fuel : ℕ) (b : Carried) (x : ℕ) (xs : List ℕ) (ss : List Step) → PassedNext b (x ∷ xs)
    → ((c : Carried) × (onward fuel b (x ∷ xs) ≡ accepted c) × (c.steps ≡ ss))
    → (c : Carried) × (judge_from (suc fuel) b (x ∷ xs) ≡ accepted c) × (c.steps ≡ ss)
past-on fuel b x xs ss h on = (on.0, judged-past fuel b (x ∷ xs) (omega arith) h ∙ on.1, on.2)

-- From any place of the packet on, with the same steps so far and pointers that agree where they are set.
same_from : (fuel : ℕ) (set : List Space) (a b : Carried) (rest : List ℕ) (end : Carried) → Agree set a.pointers b.pointers
    → a.steps ≡ b.steps → judge_from fuel a rest ≡ accepted end → NoInfo end.steps → uses_from fuel set rest ≡ false
    → (c : Carried) × (judge_from fuel b rest ≡ accepted c) × (c.steps ≡ end.steps)
unfolding judge_from uses_from carry pointers_after
same_from zero set a b rest end g s e i u = let q : a ≡ end = cc in (b, refl, sym s ∙ ap (λ c. c.steps) q)
same_from (suc fuel) set a b [] end g s e i u = let q : a ≡ end = cc in (b, refl, sym s ∙ ap (λ c. c.steps) q)
same_from (suc fuel) set a b (x ∷ xs) end g s e i u =
    let rest = x ∷ xs in
    let f = fields_at rest in
    let t = space_of f.space in
    let left = drop (command_bytes f) rest in
    let (next, on) = accepted-past fuel a x xs end e in
    let plain = plain-next fuel a x xs end e i in
    let (now, later) = or_false (not f.address && not (among t set)) (uses_from fuel (t ∷ set) left) u in
    let used = used_alike a.pointers b.pointers f rest plain (λ n. g t (set_before _ _ now n)) in
    let steps = steps_alike a.pointers b.pointers f rest plain used in
    let pass = passes-alike a.pointers b.pointers f rest plain used next in
    past-on fuel b x xs end.steps (rw s at pass)
    (same_from fuel (t ∷ set) (carry a rest) (carry b rest) left end
    (rw (plain, used) (agree_on set a.pointers b.pointers t _ g)) (rw (s, steps)) on i later)

-- Accepted from some pointers and using none before it is set, a packet is accepted from all, with the same steps.
pub from_any : (p : Pointers) (packet : List ℕ) (c : Carried) → judge p packet ≡ accepted c → NoInfo c.steps
    → uses_unset packet ≡ false → (q : Pointers)
    → (d : Carried) × (judge q packet ≡ accepted d) × (d.steps ≡ c.steps)
unfolding judge begin uses_unset among
from_any p packet c e i u q =
    same_from (length packet) [] (begin p) (begin q) packet c
    (λ s h. let z : ◌≡◌ {A = ℕ} 0 1 = cc in absurd (omega arith)) refl e i u

-- A plain command that passes while the spaces not set are as `unset` has them uses none of these.
uses_set : (set : List Space) (p : Pointers) {open? : Bool} {reply : ℕ} (f : Fields) (rest : List ℕ) → Unset set p
    → is_info (kind_of f) ≡ false → Passed p open? reply f rest → (not f.address && not (among (space_of f.space) set)) ≡ false
unfolding address_used row_of
uses_set set p f rest h plain pass = go f.address (among t set) refl refl
  where
    t : Space
    t = space_of f.space

    go : (a m : Bool) → f.address ≡ a → among t set ≡ m → (not a && not m) ≡ false
    go true m e n = refl
    go false true e n = refl
    go false false e n =
        let present = pass.present in
        let aligned : misaligned (row t) unset_address ≡ false =
        rw (row_plain (kind_of f) t plain, plain, e, h t present n) at pass.aligned in
        let z : ◌≡◌ {A = ℕ} 0 1 = cc (unset-misaligned t present) in
        absurd (omega arith)

unset-from : (fuel : ℕ) (set : List Space) (a : Carried) (rest : List ℕ) (end : Carried) → Unset set a.pointers
    → judge_from fuel a rest ≡ accepted end → NoInfo end.steps → uses_from fuel set rest ≡ false
unfolding judge_from uses_from carry pointers_after
unset-from zero set a rest end h e i = refl
unset-from (suc fuel) set a [] end h e i = refl
unset-from (suc fuel) set a (x ∷ xs) end h e i =
    let rest = x ∷ xs in
    let f = fields_at rest in
    let t = space_of f.space in
    let left = drop (command_bytes f) rest in
    let (next, on) = accepted-past fuel a x xs end e in
    let plain = plain-next fuel a x xs end e i in
    rw (uses_set set a.pointers f rest h plain next)
    (unset-from fuel (t ∷ set) (carry a rest) left end (rw plain (unset-on set a.pointers t _ h)) on i)

none-set : Unset [] unset
unfolding unset unset_spaces pointer_of of_space is_absent
none-set registers p a = refl
none-set eeprom p a = refl
none-set status p a = refl
none-set information p a = refl
none-set absent p a = let z : ◌≡◌ {A = ℕ} 0 1 = cc in absurd (omega arith)

-- A packet accepted from `unset` uses no pointer before it sets it.
pub uses_none : (packet : List ℕ) (c : Carried) → judge unset packet ≡ accepted c → NoInfo c.steps → uses_unset packet ≡ false
unfolding judge begin uses_unset
uses_none packet c e i = unset-from (length packet) [] (begin unset) packet c none-set e i

-- what it means that a packet does these steps
pub record FromFresh (packet : List ℕ) (ss : List Step) : Type 0 where
  pub short : length packet ≤ limit
  pub set : uses_unset packet ≡ false
  pub end : Carried
  pub judged : judge fresh packet ≡ accepted end
  pub same : end.steps ≡ ss
  pub plain : NoInfo ss

pub from-fresh : (packet : List ℕ) (ss : List Step) → packet_does packet ≡ steps ss → FromFresh packet ss
unfolding packet_does done_by plain_only
from-fresh packet ss = go (ltb limit (length packet)) (uses_unset packet) (judge fresh packet) refl refl refl
  where
    last : (c : Carried) (i : Bool) → length packet ≤ limit → uses_unset packet ≡ false → judge fresh packet ≡ accepted c
        → any_step info_step c.steps ≡ i → cond i none (steps c.steps) ≡ steps ss → FromFresh packet ss
    last c true l u e i h = let z : ◌≡◌ {A = ℕ} 0 1 = cc in absurd (omega arith)
    last c false l u e i h =
        let same : c.steps ≡ ss = cc in
        record { short = l; set = u; end = c; judged = e; same = same; plain = rw same at i }

    go : (b u : Bool) (v : Judge.Verdict) → ltb limit (length packet) ≡ b → uses_unset packet ≡ u → judge fresh packet ≡ v
        → cond (b || u) none (plain_only (done_by v)) ≡ steps ss → FromFresh packet ss
    go true u v l n e h = let z : ◌≡◌ {A = ℕ} 0 1 = cc in absurd (omega arith)
    go false true v l n e h = let z : ◌≡◌ {A = ℕ} 0 1 = cc in absurd (omega arith)
    go false false (Judge.refused n place) l u e h = let z : ◌≡◌ {A = ℕ} 0 1 = cc in absurd (omega arith)
    go false false (Judge.accepted c) l u e h = last c _ (ltb-false _ _ l) u e refl h

pub fresh-does : (packet : List ℕ) (ss : List Step) → FromFresh packet ss → packet_does packet ≡ steps ss
unfolding packet_does done_by plain_only
fresh-does packet ss f = rw (le-ltb limit (length packet) f.short, f.set, f.judged, f.same, f.plain)

-- A packet that is let through is accepted from all pointers, with the same steps.
pub any_pointers : (packet : List ℕ) (ss : List Step) → packet_does packet ≡ steps ss → (p : Pointers)
    → (c : Carried) × (judge p packet ≡ accepted c) × (c.steps ≡ ss)
any_pointers packet ss e p =
    let f = from-fresh packet ss e in
    let (c, judged, same) = from_any fresh packet f.end f.judged (rw f.same f.plain) f.set p in
    (c, judged, same ∙ f.same)

pub any_does : (packet : List ℕ) (ss : List Step) → packet_does packet ≡ steps ss → Does packet ss
any_does packet ss e =
    record {
      short = (from-fresh packet ss e).short;
      judged = λ p below.
          let (c, judged, same) = any_pointers packet ss e p in
          (c, judged, same, pointers-kept p packet c below judged);
    }

-- The rule and the trick, of every packet: those let through are those accepted from `unset`, info commands apart.
pub does-is : (packet : List ℕ) → packet_does packet ≡ plain_only (from_unset packet)
unfolding packet_does from_unset done_by plain_only
does-is packet = go (ltb limit (length packet))
  where
    -- refused from `unset`
    refused : (u : Bool) (v : Judge.Verdict) (n place : ℕ) → uses_unset packet ≡ u → judge fresh packet ≡ v
        → judge unset packet ≡ Judge.refused n place → cond u none (plain_only (done_by v)) ≡ none
    refused true v n place u f e = refl
    refused false (Judge.refused m i) n place u f e = refl
    refused false (Judge.accepted c) n place u f e = last (any_step info_step c.steps) refl
      where
        last : (i : Bool) → any_step info_step c.steps ≡ i → cond i none (steps c.steps) ≡ none
        last true i = refl
        last false i =
            let (d, judged, same) = from_any fresh packet c f i u unset in
            let z : ◌≡◌ {A = ℕ} 0 1 = cc (sym e ∙ judged) in
            absurd (omega arith)

    -- accepted from `unset`, with an info command
    info : (u : Bool) (v : Judge.Verdict) (d : Carried) → judge fresh packet ≡ v → judge unset packet ≡ accepted d
        → any_step info_step d.steps ≡ true → cond u none (plain_only (done_by v)) ≡ none
    info true v d f e i = refl
    info false (Judge.refused m j) d f e i = refl
    info false (Judge.accepted c) d f e i = rw (info-same fresh unset packet c d f e, i)

    middle : (v : Judge.Verdict) → judge unset packet ≡ v
        → cond (uses_unset packet) none (plain_only (done_by (judge fresh packet))) ≡ plain_only (done_by v)
    middle (Judge.refused n place) e = refused (uses_unset packet) (judge fresh packet) n place refl refl e
    middle (Judge.accepted d) e = last (any_step info_step d.steps) refl
      where
        last : (i : Bool) → any_step info_step d.steps ≡ i
            → cond (uses_unset packet) none (plain_only (done_by (judge fresh packet))) ≡ cond i none (steps d.steps)
        last true i = info (uses_unset packet) (judge fresh packet) d refl e i
        last false i =
            let set = uses_none packet d e i in
            let (c, judged, same) = from_any unset packet d e i set fresh in
            rw (set, judged, same, i)

    go : (b : Bool)
        → cond (b || uses_unset packet) none (plain_only (done_by (judge fresh packet)))
        ≡ plain_only (cond b none (done_by (judge unset packet)))
    go true = refl
    go false = middle _ refl

-- A packet without info commands that is accepted from all pointers, with the same steps, is let through.
pub all-does : (packet : List ℕ) (ss : List Step) → length packet ≤ limit
    → ((p : Pointers) → (c : Carried) × (judge p packet ≡ accepted c) × (c.steps ≡ ss)) → NoInfo ss → packet_does packet ≡ steps ss
unfolding from_unset done_by plain_only
all-does packet ss short all i =
    let (c, judged, same) = all unset in
    does-is packet ∙ rw (le-ltb limit (length packet) short, judged, same, i)
