-- What head_judge leaves, from what the judge answers and leaves.
use Prim.Native.Nat.{ℕ}
use mathlib.Core.Path.{◌≡◌, refl}
use mathlib.Core.List.{List}
use lib.ListN.{length}
use borrow.Author.Tests.{eq-eqb, ne_eqb}
use Rattle.lbp16.specs.declared.pointer.Pointers.{Pointers}
use Rattle.recording.specs.Recording.{verdict_listed, said_by, judged}
use Rattle.recording.specs.declared.Judged.{Judged}
use Rattle.lbp16.specs.Pointer.{pointers_of, lent_pointers}
use Rattle.head.specs.RecordingExports.{judged_numbers, judge_left, of_said, export_judge}
use Rattle.head.specs.declared.numbers.Numbers.{Numbers}

module _ (show store pointers : List ℕ) where
  pub judge-not_eight : (length pointers ≡ 8 → ⊥) → judge_left 1 0 0 store pointers ≡ export_judge show store pointers
  unfolding export_judge
  judge-not_eight h = rw (ne_eqb _ _ h) refl

  pub judge-left : (p : Pointers) (r : Judged) (n : Numbers) (store' pointers' : List ℕ) → length pointers ≡ 8
      → p ≡ pointers_of pointers → said_by r store' ≡ judged show store p → pointers' ≡ lent_pointers r.pointers
      → n ≡ judged_numbers (verdict_listed r.judgment)
      → judge_left n.0 n.1 n.2 store' pointers' ≡ export_judge show store pointers
  unfolding export_judge of_said said_by
  judge-left p r n store' pointers' count given done put g = rw (eq-eqb _ _ count, ← given, ← done, put, g) refl
