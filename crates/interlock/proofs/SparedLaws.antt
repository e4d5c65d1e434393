-- Spared for ever: whatever is sent to a guarded card, every protected byte stays as it is.
use Prim.Native.Nat.{ℕ, zero, suc, ◌+◌, ◌≤◌, ◌<◌}
use mathlib.Core.Path.{◌≡◌, refl, ap, ◌∙◌}
use mathlib.Core.Logic.{◌⊎◌, inl, inr}
use mathlib.Core.List.{List, [], ◌∷◌}
use mathlib.Core.Bool.{Bool, true, false, ◌&&◌, cond}
use native.Mathlib.Omega.{arith}
use lib.Dec.{eqb, ltb}
use lib.ListN.{length, take, drop, get_or, length-take}
use borrow.Author.Tests.{le-ltb, ltb-false}
use Rattle.lbp16.specs.Space.{Space, row}
use Rattle.lbp16.specs.Pointer.{pointers_of}
use Rattle.lbp16.specs.declared.pointer.Pointers.{Pointers}
use Rattle.lbp16.proofs.BoolLaws.{or_false}
use Rattle.packet.specs.Step.{Kind, read, write, infoRead, Step, is_write, at, carried, store_after}
use Rattle.packet.specs.Rules.{any_step}
use Rattle.packet.specs.Command.{payload, elements, steps_at}
use Rattle.packet.specs.Judge.{Carried, accepted, begin, carry, judge}
use Rattle.std.proofs.Common.{Result}
use Rattle.lbp16.specs.declared.Refusal.{Refusal}
use Rattle.packet.proofs.StoreLaws.{Spared, spared_byte, length-after}
use Rattle.packet.proofs.StepLaws.{any_append}
use Rattle.packet.proofs.RefusalLaws.{all-passed, reaches_keeps}
use Rattle.card.specs.Run.{cleared, outcome, LentOutcome, as_lent, ran_lent}
use Rattle.card.specs.declared.run.RanLent.{RanLent}
use Rattle.card.proofs.RunLaws.{length-cleared, length-counted, cleared-outside, counted-outside}
use Rattle.spi.specs.Spi.{Burst, burst_left}
use Rattle.interlock.specs.Guard.{touches, IsProtected, writes_protected, protected}
use Rattle.interlock.specs.Guarded.{guarded_packet, guarded_run, guarded_burst}
use Rattle.interlock.specs.Spared.{Sent, Card, after_one, after_all, Spares, Untouched}
use Rattle.interlock.proofs.RangeLaws.{off-protected, sound-off}
use Rattle.interlock.proofs.GuardedLaws.{guarded_cases}
use Rattle.interlock.proofs.BurstLaws.{burst-cases}

-- a write of more bytes than its element has
unfoldable overlong : Step → Bool
overlong s = is_write s.kind && ltb (row s.space).element (length s.bytes)

-- No element of a command is that.
narrow : (k : Kind) (s : Space) (n a d : ℕ) (bs : List ℕ) → any_step overlong (elements k s n a d bs) ≡ false
unfolding any_step elements overlong is_write payload carried
narrow k s zero a d bs = refl
narrow k s (suc n) a d bs = rw (one k) (narrow k s n (a + d) d (drop (carried k s) bs))
  where
    one : (k : Kind) → (is_write k && ltb (row s).element (length (payload k s bs))) ≡ false
    one read = refl
    one write = le-ltb (row s).element (length (take (row s).element bs)) (rw length-take (omega arith))
    one infoRead = refl

accepted-narrow : (p : Pointers) (packet : List ℕ) (end : Carried) → judge p packet ≡ accepted end → any_step overlong end.steps ≡ false
unfolding begin any_step carry steps_at
accepted-narrow p packet end e =
    reaches_keeps (λ c _. any_step overlong c.steps ≡ false)
    (λ c rest n h. any_append overlong c.steps _ h (narrow _ _ _ _ _ _))
    (all-passed p packet end e)
    refl

-- Steps that write no protected byte name none.
spared_steps : (guard : List ℕ) (i : ℕ) → IsProtected guard i → (ss : List Step) → protected guard ss ≡ false
    → any_step overlong ss ≡ false → Spared i ss
unfolding protected any_step writes_protected overlong
spared_steps guard i here [] h w = Spared.none
spared_steps guard i here (s ∷ ss) h w =
    let (off, later) = or_false (is_write s.kind && touches guard (at s) (row s.space).element) _ h in
    let (wide, rest) = or_false (is_write s.kind && ltb (row s.space).element (length s.bytes)) _ w in
    go (is_write s.kind) refl off wide (spared_steps guard i here ss later rest)
  where
    go : (b : Bool) → is_write s.kind ≡ b → (b && touches guard (at s) (row s.space).element) ≡ false
        → (b && ltb (row s.space).element (length s.bytes)) ≡ false → Spared i ss → Spared i (s ∷ ss)
    go false e off wide more = Spared.reads e more
    go true e off wide more = Spared.misses (side (off-protected guard (at s) (row s.space).element i off here)) more
      where
        side : (i < at s) ⊎ (at s + (row s.space).element ≤ i) → (i < at s) ⊎ (at s + length s.bytes ≤ i)
        side (inl h) = inl h
        side (inr h) = let l : length s.bytes ≤ (row s.space).element = ltb-false _ _ wide in inr (omega arith)

-- what a guarded card keeps of its store
abbrev Kept : List ℕ → List ℕ → List ℕ → Type 0
Kept guard before after = (length after ≡ length before) × ((i : ℕ) → IsProtected guard i → get_or after i 0 ≡ get_or before i 0)

packet-kept : (guard packet store : List ℕ) (p : Pointers) (reply : List ℕ) → Kept guard store (guarded_packet guard packet store p reply).store
unfolding outcome
packet-kept guard packet store p reply =
    guarded_cases guard packet store p reply (λ o. Kept guard store o.store) (λ n i. (refl, λ i _. refl))
    (λ c values sound judged free.
    let left = store_after c.steps store in (
      length-counted (cleared left) ∙ length-cleared left ∙ length-after c.steps store,
      λ i here.
          let off = sound-off guard values sound i here in
          counted-outside (cleared left) i off.1
          ∙ cleared-outside left i off.0
          ∙ spared_byte i c.steps store (spared_steps guard i here c.steps free (accepted-narrow p packet c judged)),
    ))

run_kept : (guard packet store pointers reply : List ℕ) → Kept guard store (guarded_run guard packet store pointers reply).store
unfolding guarded_run as_lent
run_kept guard packet store pointers reply =
    go (eqb (length pointers) 8) _ _ (packet-kept guard packet store (pointers_of pointers) reply) (refl, λ i _. refl)
  where
    go : (b : Bool) (o other : LentOutcome) → Kept guard store o.store → Kept guard store other.store
        → Kept guard store (cond b o other).store
    go true o other k l = k
    go false o other k l = l

burst-kept : (guard words store room : List ℕ) → Kept guard store (guarded_burst guard words store room).store
burst-kept guard words store room =
    burst-cases guard words store room (λ b. Kept guard store b.store) (λ n i. (refl, λ i _. refl))
    (λ k s n a d bs free. (
      length-after (elements k s n a d bs) store,
      λ i here. spared_byte i (elements k s n a d bs) store (spared_steps guard i here _ free (narrow k s n a d bs)),
    ))

one_kept : (guard : List ℕ) (x : Sent) (card : Card) → Kept guard card.store (after_one guard x card).store
unfolding after_one
one_kept guard (Sent.packet bytes reply) card = run_kept guard bytes card.store card.pointers reply
one_kept guard (Sent.burst words room) card = burst-kept guard words card.store room

all-kept : (guard : List ℕ) (sent : List Sent) (card : Card) → Kept guard card.store (after_all guard sent card).store
unfolding after_all
all-kept guard [] card = (refl, λ i _. refl)
all-kept guard (x ∷ xs) card =
    let one = one_kept guard x card in
    let more = all-kept guard xs (after_one guard x card) in
    (more.0 ∙ one.0, λ i here. more.1 i here ∙ one.1 i here)

-- After any sequence of guarded packets and bursts, of whatever bytes, on any store and pointers and with any rooms.
pub spared_for_ever : (guard : List ℕ) (sent : List Sent) (card : Card) → Untouched guard card (after_all guard sent card)
spared_for_ever guard sent card = let k = all-kept guard sent card in record { bytes = k.0; same = k.1 }

-- the same of one call, as the code has it
pub run_spares : (guard bytes store pointers reply : List ℕ) (r : RanLent) (store' pointers' reply' : List ℕ)
    → ran_lent r store' pointers' reply' ≡ guarded_run guard bytes store pointers reply → Spares guard store store'
unfolding ran_lent after_all after_one
run_spares guard bytes store pointers reply r store' pointers' reply' e i p =
    ap (λ (o : LentOutcome). get_or o.store i 0) e
    ∙ (spared_for_ever guard (Sent.packet bytes reply ∷ []) (record { store = store; pointers = pointers })).same i p

pub burst_spares : (guard words store room : List ℕ) (a : Result ℕ Refusal) (store' room'' : List ℕ)
    → burst_left a store' room'' ≡ guarded_burst guard words store room → Spares guard store store'
unfolding burst_left after_all after_one
burst_spares guard words store room a store' room'' e i p =
    ap (λ (b : Burst). get_or b.store i 0) e ∙ (spared_for_ever guard (Sent.burst words room ∷ []) (record { store = store; pointers = [] })).same i p
