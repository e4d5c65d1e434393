-- The loop over a packet's commands that looks for one that uses a pointer.
use Prim.Native.Nat.{ℕ, zero, suc, ◌-◌, min, ◌≤◌, ◌<◌}
use mathlib.Core.Path.{◌≡◌, refl, sym, ◌∙◌}
use mathlib.Core.List.{List}
use mathlib.Core.Bool.{true, false, ◌||◌}
use native.Mathlib.Omega.{arith}
use native.Mathlib.Nat.{le_refl}
use lib.ListN.{length, take, drop}
use Rattle.packet.specs.Command.{fields_at, command_bytes}
use Rattle.packet.proofs.CommandLaws.{command-some}
use Rattle.packet.proofs.SliceLaws.{rest-within}
use Rattle.why_output.specs.Pointed.{by_pointer, pointed_from}

pointed-none : (fuel : ℕ) (rest : List ℕ) → pointed_from fuel 0 rest ≡ false
unfolding pointed_from
pointed-none zero rest = refl
pointed-none (suc fuel) rest = refl

pointed-step : (fuel n : ℕ) (rest : List ℕ) → 0 < n
    → pointed_from (suc fuel) n rest
    ≡ (by_pointer rest || pointed_from fuel (n - command_bytes (fields_at rest)) (drop (command_bytes (fields_at rest)) rest))
unfolding pointed_from
pointed-step fuel zero rest h = absurd (omega arith)
pointed-step fuel (suc n) rest h = refl

-- What is so of the whole is so from a command on.
pub record Looking (packet : List ℕ) (place n : ℕ) (rest : List ℕ) : Type 0 where
  pub fuel : ℕ
  pub same : pointed_from place place packet ≡ pointed_from fuel n rest
  pub enough : n ≤ fuel

pub looking_start : (packet : List ℕ) (place : ℕ) → Looking packet place place packet
looking_start packet place = record { fuel = place; same = refl; enough = le_refl _ }

module _ {packet : List ℕ} {place n : ℕ} {rest : List ℕ} (s : Looking packet place n rest) where
  pub looking_end : n ≤ 0 → false ≡ pointed_from place place packet
  looking_end h =
      let z : n ≡ 0 = omega arith in
      sym (s.same ∙ rw z (pointed-none s.fuel rest))

  module _ (h : 0 < n) where
    turned : (k : ℕ) → s.fuel ≡ suc k
        → pointed_from place place packet
        ≡ (by_pointer rest || pointed_from k (n - command_bytes (fields_at rest)) (drop (command_bytes (fields_at rest)) rest))
    turned k f = s.same ∙ rw f (pointed-step k n rest h)

    fuelled : (P : Type 0) → ((k : ℕ) → s.fuel ≡ suc k → P) → P
    fuelled P go = on s.fuel refl
      where
        on : (m : ℕ) → s.fuel ≡ m → P
        on zero z = absurd (omega (arith, s.enough))
        on (suc k) z = go k z

    pub looking_found : by_pointer rest ≡ true → true ≡ pointed_from place place packet
    looking_found e = fuelled _ (λ k f. sym (turned k f ∙ rw e refl))

    module _ {k m : ℕ} (q : k ≡ command_bytes (fields_at rest)) (l : m ≡ min k n) where
      pub looking_less : n - m < n
      looking_less = omega (arith, command-some (fields_at rest))

      pub looking_next : by_pointer rest ≡ false → {from : ℕ} → from ≡ min k (length rest)
          → Looking packet place (n - m) (take (length rest - from) (drop from rest))
      looking_next e {from} g =
          rw (rest-within rest k from g)
          (fuelled _ (λ j f.
          let d : n - m ≡ n - command_bytes (fields_at rest) = omega arith in
          record {
            fuel = j;
            same = turned j f ∙ rw (e, q, d) refl;
            enough = omega (arith, s.enough, command-some (fields_at rest));
          }))
