-- Laws of head_tighten.
use Prim.Native.Nat.{ℕ, zero, suc}
use mathlib.Core.Path.{◌≡◌, refl, ap}
use mathlib.Core.List.{List, [], ◌∷◌}
use native.Mathlib.Omega.{arith}
use lib.ListN.{take, get_or}
use Rattle.lbp16.specs.Answer.{Answer}
use Rattle.cue.specs.Compile.{Compiled, compiled, compile_listed, left}
use Rattle.std.specs.Prelude.{Result}
use Rattle.lbp16.specs.declared.Refusal.{Refusal}
use Rattle.cue.specs.declared.Packed.{Packed}
use Rattle.cue.proofs.CompileLaws.{refused-numbers, refusal_changes_nothing}
use Rattle.tight.specs.Demand3.{TightDemand3}
use Rattle.tight.proofs.Demand3Laws.{tight_demand3}
use Rattle.planner.specs.Planner.{TightenedBy, Tightened, EightBytes}
use Rattle.head.specs.Exports.{number_of, value_of, count_of, numbers_of, CompileExport, compile_left, export_compile}
use Rattle.head.specs.TightExports.{TightenExport, EightExport}
use Rattle.head.specs.declared.numbers.Numbers.{Numbers}
use Rattle.head.proofs.ExportLaws.{never_zero}

-- what a compilation answers and leaves, as C sees it
unfoldable exported : Compiled → CompileExport
exported c = compile_left (number_of c.answer) (value_of c.answer) (count_of c.answer) c.room

first-value : (values : List ℕ) → get_or values 0 0 ≡ value_of (Answer.accepted values)
unfolding value_of
first-value [] = refl
first-value (v ∷ vs) = refl

-- from what the planner answers and leaves
tightened_left : (list room : List ℕ) (c : Compiled) → Tightened list room c → TightenExport list room (exported c)
unfolding Tightened TightenedBy exported export_compile number_of value_of count_of
tightened_left list room c = go (compiled list room).answer refl
  where
    go : (v : Answer) → (compiled list room).answer ≡ v → TightenedBy v list room c → TightenExport list room (exported c)
    go (Answer.refused n k) e t =
        record {
          refuses = λ h. rw (t, e, refusal_changes_nothing list room n k e) refl;
          accepts = λ z. absurd (never_zero (refused-numbers list room n k e) (rw e at z));
        }
    go (Answer.accepted values) e t =
        record {
          refuses = λ h. absurd (h (rw e refl));
          accepts = λ z.
              record {
                number = rw t.answered refl;
                no_longer = rw (t.answered, e, ← first-value values) t.no_longer;
                checks = rw t.answered t.accepted;
                beyond = rw t.answered t.beyond;
                size = t.size;
              };
        }

-- an output that the checker accepts does what the list's records do
tightened_demand3 : (list room : List ℕ) (c : CompileExport) → TightenExport list room c → c.number ≡ 0
    → TightDemand3 list (take c.bytes c.room) c.packets
tightened_demand3 list room c t z = go (export_compile list room).number refl
  where
    go : (n : ℕ) → (export_compile list room).number ≡ n → TightDemand3 list (take c.bytes c.room) c.packets
    go zero e = tight_demand3 list _ _ (t.accepts e).checks
    go (suc n) e = let same = ap (λ x. x.number) (t.refuses (λ y. omega arith)) in absurd (omega arith)

-- what the code returns and leaves, and its promises
module _ (list room : List ℕ) (a : Result Packed Refusal) (n : Numbers) (room'' : List ℕ) (g : n ≡ numbers_of (compile_listed a)) where
  is-exported : compile_left n.0 n.1 n.2 room'' ≡ exported (left a room'')
  unfolding exported left numbers_of
  is-exported = rw g refl

  pub tighten_left : Tightened list room (left a room'') → TightenExport list room (compile_left n.0 n.1 n.2 room'')
  tighten_left t = rw is-exported (tightened_left list room _ t)

  pub tighten_eight : EightBytes list room (compile_listed a)
      → EightExport list room (compile_left n.0 n.1 n.2 room'')
  unfolding EightBytes EightExport numbers_of number_of value_of count_of
  tighten_eight f k x o h = rw (g, f k x o h) refl

  pub tighten_demand3 : Tightened list room (left a room'') → n.0 ≡ 0 → TightDemand3 list (take n.1 room'') n.2
  tighten_demand3 t z = tightened_demand3 list room _ (tighten_left t) z
