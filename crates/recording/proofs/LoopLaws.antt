-- The judge's loop: where it stands between a reply and the next packet.
use Prim.Native.Nat.{ℕ, zero, suc, ◌+◌, ◌-◌, ◌*◌, ◌≤◌}
use mathlib.Core.Path.{◌≡◌, refl, sym, ap, ◌∙◌}
use mathlib.Core.List.{List}
use mathlib.Core.Bool.{true, false}
use native.Mathlib.Omega.{arith}
use native.Mathlib.Nat.{le_refl, add_comm}
use lib.ListN.{length, take, drop, length-drop}
use borrow.Author.Tests.{eq-eqb, ne_eqb}
use Rattle.lbp16.specs.declared.pointer.Pointers.{Pointers}
use Rattle.packet.proofs.SliceLaws.{tail-whole}
use Rattle.cue.specs.Output.{behind_frame}
use Rattle.recording.specs.Recording.{pair_left, pair_at, good_bytes}
use Rattle.recording.specs.Recording.{verdict_listed, verdict_of, judged_from, judged_parts, left}
use Rattle.recording.specs.declared.pair.Pair.{Pair}
use Rattle.recording.specs.declared.Judgment.{Judgment}
use Rattle.cue.proofs.FrameLaws.{front-within}
use Rattle.recording.proofs.PairLaws.{is_yes, pair-cases}

-- A packet and a reply that are as they should be take at least 8 bytes, and no more than there are.
pub record Within (k bytes : ℕ) : Type 0 where
  pub some : 8 ≤ k
  pub whole : k ≤ bytes

pub pair-within : (rest store : List ℕ) (p : Pointers) (room : List ℕ)
    → (good_bytes (pair_at rest store p room).pair ≡ 0 → ⊥) → Within (good_bytes (pair_at rest store p room).pair) (length rest)
unfolding behind_frame
pair-within rest store p room =
    pair-cases rest store p room (λ t. (good_bytes t.pair ≡ 0 → ⊥) → Within (good_bytes t.pair) (length rest))
    (λ e h. absurd (h refl))
    (λ n m o g h.
    let v = front-within rest n g.packet in
    let w : 4 + m ≤ length rest - (4 + n) = rw length-drop at (front-within (behind_frame n rest) m g.reply) in
    record { some = omega arith; whole = omega arith })
    (λ pair s q r f h. absurd (h f.stops))

-- a good pair takes some bytes, and all else none
pub good-some : (rest store : List ℕ) (p : Pointers) (room : List ℕ) (k : ℕ) → (pair_at rest store p room).pair ≡ Pair.Good k → k ≡ 0 → ⊥
unfolding is_yes
good-some rest store p room k =
    pair-cases rest store p room (λ t. t.pair ≡ Pair.Good k → k ≡ 0 → ⊥)
    (λ e g. let z : ◌≡◌ {A = ℕ} 0 1 = cc in absurd (omega arith))
    (λ n m o a g. let z : 8 + n + m ≡ k = cc in λ y. omega arith)
    (λ pair s q r f g.
    let y : true ≡ false = rw g at (f.faults 0) in
    let z : ◌≡◌ {A = ℕ} 0 1 = cc in
    absurd (omega arith))

pub none-good : (pair : Pair) → ((k : ℕ) → pair ≡ Pair.Good k → ⊥) → 0 ≡ good_bytes pair
none-good Pair.End h = refl
none-good (Pair.Good k) h = absurd (h k refl)
none-good Pair.Refused h = refl
none-good Pair.WrongLength h = refl
none-good (Pair.WrongByte k) h = refl
none-good (Pair.Cut r) h = refl
none-good (Pair.Unmarked r) h = refl

-- What is said of the recording is what is said from packet i on, in the state that the packets before it left.
pub record Judging (recording store₀ : List ℕ) (p₀ : Pointers) (room₀ store room : List ℕ) (p : Pointers) (i at : ℕ) (rest : List ℕ)
    : Type 0 where
  pub fuel : ℕ
  pub same : judged_parts recording store₀ p₀ room₀ ≡ judged_from (suc fuel) i at rest store p room
  pub enough : length rest ≤ fuel
  pub end : at + length rest ≡ length recording
  pub few : 8 * i ≤ at
  pub store_bytes_lem : length store ≡ length store₀

pub judging_start : (recording store : List ℕ) (p : Pointers) (room : List ℕ)
    → Judging recording store p room store room p 0 0 recording
unfolding judged_parts
judging_start recording store p room =
    record {
      fuel = length recording;
      same = refl;
      enough = le_refl _;
      end = omega arith;
      few = omega arith;
      store_bytes_lem = refl;
    }

module _ {recording store₀ : List ℕ} {p₀ : Pointers} {room₀ store room : List ℕ} {p : Pointers} {i at : ℕ} {rest : List ℕ}
    (s : Judging recording store₀ p₀ room₀ store room p i at rest) (pair : Pair) (store' : List ℕ) (q : Pointers) (room'' : List ℕ)
    (e : pair_left pair store' q room'' ≡ pair_at rest store p room) (k : ℕ) (f : k ≡ good_bytes pair) where
  pub judging_stop : k ≡ 0 → (j : Judgment) → verdict_listed j ≡ verdict_of pair i
      → left (record { judgment = j; at = at; pointers = q }) store' room'' ≡ judged_parts recording store₀ p₀ room₀
  unfolding judged_from left
  judging_stop z j v = rw (s.same, ← e, eq-eqb (good_bytes pair) 0 (sym f ∙ z), v) refl

  pub judging_within : (k ≡ 0 → ⊥) → Within k (length rest)
  judging_within h =
      let g = ap (λ t. good_bytes t.pair) e in
      rw (f, g) (pair-within rest store p room (λ z. h (f ∙ g ∙ z)))

  pub judging_next : (k ≡ 0 → ⊥) → length store' ≡ length store
      → Judging recording store₀ p₀ room₀ store' room'' q (i + 1) (at + k) (take (length rest - k) (drop k rest))
  unfolding judged_from
  judging_next h l = rw tail-whole (go s.fuel refl)
    where
      go : (n : ℕ) → s.fuel ≡ n → Judging recording store₀ p₀ room₀ store' room'' q (i + 1) (at + k) (drop k rest)
      go zero z = let w = judging_within h in absurd (omega (arith, s.enough, w.some, w.whole))
      go (suc n) z =
          let w = judging_within h in
          let nz = ne_eqb (good_bytes pair) 0 (λ y. h (f ∙ y)) in
          record {
            fuel = n;
            same = s.same ∙ (rw (z, ← e, nz, ← f, add_comm 1 i) refl);
            enough = rw length-drop (omega (arith, s.enough, w.some));
            end = rw length-drop (omega (arith, s.end, w.whole));
            few = omega (arith, s.few, w.some);
            store_bytes_lem = l ∙ s.store_bytes_lem;
          }
