-- Laws of a text that is written whole, or not at all.
use Prim.Native.Nat.{ℕ, ◌≤◌, ◌<◌}
use mathlib.Core.Path.{◌≡◌, refl, ◌∙◌}
use mathlib.Core.List.{List}
use lib.ListN.{length}
use borrow.Author.Tests.{lt-ltb, le-ltb}
use Rattle.text.specs.Room.{filled, put_at}
use Rattle.text.proofs.RoomLaws.{put_front}
use Rattle.sentence.specs.Whole.{whole_left}

module _ (text out : List ℕ) where
  pub too_little : length out < length text → filled (length text) out ≡ whole_left text out
  unfolding whole_left
  too_little h = rw (lt-ltb (length out) (length text) h) refl

  pub enough : {n : ℕ} {after : List ℕ} → length text ≤ length out → filled n after ≡ put_at text 0 out → filled n after ≡ whole_left text out
  unfolding whole_left
  enough h p = rw (le-ltb (length out) (length text) h) (p ∙ put_front text out h)
