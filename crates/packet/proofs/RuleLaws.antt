-- Laws of `first`: it finds no number exactly when no rule holds, and else the lowest number of those that hold.
use Prim.Native.Nat.{ℕ, ◌≤◌, ◌<◌}
use mathlib.Core.Path.{◌≡◌, refl}
use mathlib.Core.Logic.{◌≢◌}
use mathlib.Core.List.{List, [], ◌∷◌}
use mathlib.Core.Bool.{Bool, true, false, cond}
use native.Mathlib.Omega.{arith}
use Rattle.packet.specs.Rules.{Rule, first}

-- no rule of the list holds
abbrev pub NoneHolds : List Rule → Type 0
NoneHolds [] = Unit
NoneHolds (r ∷ rs) = (r.holds ≡ false) × NoneHolds rs

-- the rules' numbers are not 0
abbrev pub Numbered : List Rule → Type 0
Numbered [] = Unit
Numbered (r ∷ rs) = (1 ≤ r.number) × Numbered rs

-- Where no rule holds there is no first one, and where there is none no rule holds.
pub first-of_none : (rs : List Rule) → NoneHolds rs → first rs ≡ 0
unfolding first
first-of_none [] h = refl
first-of_none (r ∷ rs) h = rw h.0 (first-of_none rs h.1)

pub none-holds : (rs : List Rule) → Numbered rs → first rs ≡ 0 → NoneHolds rs
unfolding first
none-holds [] n e = tt
none-holds (r ∷ rs) n e = let h = head r.holds refl in (h, none-holds rs n.1 (rw h at e))
  where
    head : (b : Bool) → r.holds ≡ b → r.holds ≡ false
    head true q = let z : r.number ≡ 0 = rw q at e in absurd (omega arith)
    head false q = q

-- A table whose number is that of the rules from some rule on: this rule gives it if it holds, and else the rules after it do.
pub first-here : (all : List Rule) (r : Rule) (rs : List Rule) → first all ≡ first (r ∷ rs) → r.holds ≡ true → r.number ≡ first all
unfolding first
first-here all r rs e h = rw (e, h) refl

pub first_past : (all : List Rule) (r : Rule) (rs : List Rule) → first all ≡ first (r ∷ rs) → r.holds ≡ false → first all ≡ first rs
unfolding first
first_past all r rs e h = rw (e, h) refl

-- n is the number of a rule that holds, and no rule before it does
pub data FirstHolds (n : ℕ) : List Rule → Type 0 where
  here : {r : Rule} {rs : List Rule} → r.number ≡ n → r.holds ≡ true → FirstHolds n (r ∷ rs)
  later : {r : Rule} {rs : List Rule} → r.holds ≡ false → FirstHolds n rs → FirstHolds n (r ∷ rs)

-- A number that `first` gives is that of the first rule that holds.
pub first_holds : (n : ℕ) (rs : List Rule) → first rs ≡ n → n ≢ 0 → FirstHolds n rs
unfolding first
first_holds n [] e h = absurd (omega arith)
first_holds n (r ∷ rs) e h = go r.holds refl e (λ q. first_holds n rs q h)
  where
    go : (b : Bool) → r.holds ≡ b → cond b r.number (first rs) ≡ n → (first rs ≡ n → FirstHolds n rs)
        → FirstHolds n (r ∷ rs)
    go true p q more = FirstHolds.here q p
    go false p q more = FirstHolds.later p (more q)

-- the rules' numbers rise, from above a up to at most b
abbrev pub Rising : ℕ → ℕ → List Rule → Type 0
Rising a b [] = Unit
Rising a b (r ∷ rs) = (a < r.number) × (r.number ≤ b) × Rising r.number b rs

-- Where the numbers rise, the first that holds is within their bounds,
pub first-within : {n : ℕ} {rs : List Rule} (a b : ℕ) → FirstHolds n rs → Rising a b rs → (a < n) × (n ≤ b)
first-within a b (FirstHolds.here e t) h = omega arith
first-within a b (FirstHolds.later {r} f more) h = let k = first-within r.number b more h.2 in omega arith

-- no rule of the list that holds has a number below n
abbrev pub Lowest : ℕ → List Rule → Type 0
Lowest n [] = Unit
Lowest n (r ∷ rs) = (r.holds ≡ true → n ≤ r.number) × Lowest n rs

above-lowest : (n a b : ℕ) (rs : List Rule) → n ≤ a → Rising a b rs → Lowest n rs
above-lowest n a b [] l h = tt
above-lowest n a b (r ∷ rs) l h = (λ _. omega arith, above-lowest n r.number b rs (omega arith) h.2)

-- and the lowest of those that hold.
pub first-lowest : {n : ℕ} {rs : List Rule} (a b : ℕ) → FirstHolds n rs → Rising a b rs → Lowest n rs
first-lowest {n} a b (FirstHolds.here {r} {rs} e t) h = (λ _. omega arith, above-lowest n r.number b rs (omega arith) h.2)
first-lowest a b (FirstHolds.later {r} f more) h =
    (λ t. let z : ◌≡◌ {A = ℕ} 0 1 = cc in absurd (omega arith), first-lowest r.number b more h.2)
