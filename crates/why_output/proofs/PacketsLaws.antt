-- The loop over packets behind "LB": where it stands between two of them.
use Prim.Native.Nat.{ℕ, zero, suc, ◌+◌, ◌-◌, ◌≤◌}
use mathlib.Core.Path.{◌≡◌, refl, sym, ap, ◌∙◌}
use mathlib.Core.List.{List}
use mathlib.Core.Bool.{Bool, false, ◌||◌}
use native.Mathlib.Omega.{arith}
use native.Mathlib.Nat.{le_refl, add_comm}
use lib.ListN.{length, take, drop, length-drop, replicate}
use Rattle.lbp16.specs.Answer.{Answer}
use Rattle.lbp16.specs.declared.Refusal.{Refusal}
use Rattle.lbp16.specs.declared.pointer.Pointers.{Pointers}
use Rattle.packet.specs.Command.{limit}
use Rattle.packet.proofs.SliceLaws.{tail-whole}
use Rattle.packet.specs.Verdict.{verdict_listed}
use Rattle.card.specs.Run.{Outcome, run_packet, ran}
use Rattle.card.specs.declared.run.Ran.{Ran}
use Rattle.cue.specs.Output.{Front, front_of, bytes_in_frame, behind_frame, frame_listed}
use Rattle.cue.specs.declared.frame.Frame.{Frame}
use Rattle.cue.proofs.FrameLaws.{front-within}
use Rattle.why_output.specs.Pointed.{pointed_to}
use Rattle.std.specs.Prelude.{Ok, Err}
use Rattle.why_output.specs.Packets.{Part, PartLeft, part_left, ran_part, ran_left, front_left, part_at, stop_text, at_part}
use Rattle.why_output.specs.Packets.{packets_from, packets_text}
use Rattle.why_output.specs.declared.packets.Stop.{Stop}

-- the bytes in a frame, as the code comes to them
pub inside_is : (rest : List ℕ) (n : ℕ) {a b : List ℕ} → a ≡ drop 4 rest → b ≡ take n a → b ≡ bytes_in_frame n rest
unfolding bytes_in_frame
inside_is rest n e f = f ∙ rw e refl

-- a packet that was run
module _ (n : ℕ) (o : Outcome) (r : Ran) (store reply : List ℕ) (e : ran r store reply ≡ o) where
  pub ran-accepted : (v : ℕ) → r.answer ≡ Ok v → part_left (Ok n) store r.pointers ≡ ran_left n o
  unfolding ran_left ran_part ran verdict_listed
  ran-accepted v q = rw (← e, q) refl

  pub ran-refused : (x : Refusal) → r.answer ≡ Err x → part_left (Err (Stop.Refused n)) store r.pointers ≡ ran_left n o
  unfolding ran_left ran_part ran verdict_listed
  ran-refused x q = rw (← e, q) refl

-- what stands at the front
module _ (rest store : List ℕ) (p : Pointers) (frame : Frame) (e : frame_listed frame ≡ front_of rest) where
  pub part_end : frame ≡ Frame.End → part_left (Err Stop.End) store p ≡ part_at rest store p
  unfolding part_at front_left
  part_end q = rw (← e, q) refl

  pub part_cut : frame ≡ Frame.Cut → part_left (Err Stop.Cut) store p ≡ part_at rest store p
  unfolding part_at front_left
  part_cut q = rw (← e, q) refl

  pub part-unmarked : frame ≡ Frame.Unmarked → part_left (Err Stop.Unmarked) store p ≡ part_at rest store p
  unfolding part_at front_left
  part-unmarked q = rw (← e, q) refl

  pub part-whole : (n : ℕ) → frame ≡ Frame.Whole n
      → ran_left n (run_packet (bytes_in_frame n rest) store p (replicate limit 0)) ≡ part_at rest store p
  unfolding part_at front_left
  part-whole n q = rw (← e, q) refl

-- An accepted packet stands whole at the front.
pub accepted-within : (rest store : List ℕ) (p : Pointers) (n : ℕ) → (part_at rest store p).part ≡ Ok n → 4 + n ≤ length rest
unfolding part_at front_left ran_left ran_part
accepted-within rest store p n = go (front_of rest) refl
  where
    none : (x : Stop) → ◌≡◌ {A = Part} (Err x) (Ok n) → 4 + n ≤ length rest
    none x e = let z : ◌≡◌ {A = ℕ} 0 1 = cc in absurd (omega arith)

    of : (a : Answer) (m : ℕ) → 4 + m ≤ length rest → ran_part a m ≡ Ok n → 4 + n ≤ length rest
    of (Answer.accepted values) m w e = let z : m ≡ n = cc in rw (← z) w
    of (Answer.refused k place) m w e = none _ e

    go : (f : Front) → front_of rest ≡ f → (front_left f rest store p).part ≡ Ok n → 4 + n ≤ length rest
    go Front.end q e = none _ e
    go Front.cut q e = none _ e
    go Front.unmarked q e = none _ e
    go (Front.frame m) q e =
        of (run_packet (bytes_in_frame m rest) store p (replicate limit 0)).answer m (front-within rest m (sym q)) e

-- What is said of all packets is what is said from packet i on, in the state that those before it left.
pub record Judging (given : Bool) (bytes store₀ : List ℕ) (p₀ : Pointers) (store : List ℕ) (p : Pointers) (used : Bool) (i : ℕ) (rest : List ℕ)
    : Type 0 where
  pub fuel : ℕ
  pub same : packets_text given bytes store₀ p₀ ≡ packets_from (suc fuel) given i used rest store p
  pub enough : length rest ≤ fuel
  pub few : i + length rest ≤ length bytes
  pub store_bytes_lem : length store ≡ length store₀

pub judging_start : (given : Bool) (bytes store : List ℕ) (p : Pointers) → Judging given bytes store p store p false 0 bytes
unfolding packets_text
judging_start given bytes store p =
    record { fuel = length bytes; same = refl; enough = le_refl _; few = omega arith; store_bytes_lem = refl }

module _ {given : Bool} {bytes store₀ : List ℕ} {p₀ : Pointers} {store : List ℕ} {p : Pointers} {used : Bool} {i : ℕ} {rest : List ℕ}
    (s : Judging given bytes store₀ p₀ store p used i rest) {part : Part} {store₁ : List ℕ} {q : Pointers}
    (e : part_left part store₁ q ≡ part_at rest store p) where
  pub judging_stop : (stop : Stop) → part ≡ Err stop → stop_text stop given i used rest store₁ q ≡ packets_text given bytes store₀ p₀
  unfolding packets_from at_part
  judging_stop stop h = sym (s.same ∙ rw (← e, h) refl)

  module _ (n : ℕ) (h : part ≡ Ok n) where
    pub judging_within : 4 + n ≤ length rest
    judging_within = accepted-within rest store p n (sym (ap (λ (t : PartLeft). t.part) e) ∙ h)

    pub judging_next : (packet : List ℕ) (pointed : Bool) → packet ≡ bytes_in_frame n rest → pointed ≡ pointed_to (length packet) packet
        → length store₁ ≡ length store
        → Judging given bytes store₀ p₀ store₁ q (used || pointed) (i + 1) (take (length rest - (4 + n)) (drop (4 + n) rest))
    unfolding packets_from at_part behind_frame
    judging_next packet pointed a b l = rw tail-whole (go s.fuel refl)
      where
        go : (m : ℕ) → s.fuel ≡ m → Judging given bytes store₀ p₀ store₁ q (used || pointed) (i + 1) (drop (4 + n) rest)
        go zero z = let w = judging_within in absurd (omega (arith, s.enough))
        go (suc m) z =
            let w = judging_within in
            record {
              fuel = m;
              same = s.same ∙ rw (z, ← e, h, b, a, add_comm 1 i) refl;
              enough = rw length-drop (omega (arith, s.enough));
              few = rw length-drop (omega (arith, s.few));
              store_bytes_lem = l ∙ s.store_bytes_lem;
            }
