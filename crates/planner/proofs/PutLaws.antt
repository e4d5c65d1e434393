-- Stores below an end change nothing from there on.
use Prim.Native.Nat.{ℕ, suc, ◌+◌, ◌-◌, ◌≤◌, ◌<◌}
use mathlib.Core.Path.{◌≡◌, refl, ap, sym, ◌∙◌}
use mathlib.Core.List.{List, [], ◌∷◌}
use native.Mathlib.Omega.{arith}
use lib.ListN.{length, take, drop, set, length-take}
use lib.Seq.{sets, drop-set-lt, drop-drop}
use Rattle.planner.specs.Inside.{Kept}

pub kept-none : {end : ℕ} {l : List ℕ} → Kept end l l
kept-none = record { beyond = refl }

pub kept-both : {end : ℕ} {l m r : List ℕ} → Kept end l m → Kept end m r → Kept end l r
kept-both a b = record { beyond = b.beyond ∙ a.beyond }

pub kept_set : {end : ℕ} {l₀ l : List ℕ} → Kept end l₀ l → (i v : ℕ) → i < end → Kept end l₀ (set l i v)
kept_set {end} {l₀} {l} k i v h = record { beyond = drop-set-lt end l i v h ∙ k.beyond }

pub kept_sets : {end : ℕ} {l₀ l : List ℕ} → Kept end l₀ l → (i : ℕ) (vs : List ℕ) → i + length vs ≤ end → Kept end l₀ (sets l i vs)
kept_sets k i [] h = k
kept_sets k i (v ∷ vs) h = kept_sets (kept_set k i v (omega arith)) (suc i) vs (omega arith)

-- and so part of a list stored below the end
pub kept-part : (end at from n : ℕ) (l m rest : List ℕ) → m ≡ sets l at (take n (drop from rest)) → at + n ≤ end → Kept end l m
kept-part end at from n l m rest e h =
    let t = length-take n (drop from rest) in
    rw e (kept_sets kept-none at (take n (drop from rest)) (omega arith))

-- what is unchanged from a place on is unchanged from any later place on
pub kept-later : {n m : ℕ} {l₀ l : List ℕ} → Kept n l₀ l → n ≤ m → Kept m l₀ l
kept-later {n} {m} {l₀} {l} k h =
    let d = m - n in
    let s : n + d ≡ m = omega arith in
    let e : drop (n + d) l ≡ drop (n + d) l₀ = sym (drop-drop d n l) ∙ ap (λ x. drop d x) k.beyond ∙ drop-drop d n l₀ in
    record { beyond = rw s at e }
