-- A packet's text as C is given it.
use Prim.Native.Nat.{ℕ}
use mathlib.Core.Path.{◌≡◌, refl, ap}
use mathlib.Core.List.{List}
use mathlib.Core.Bool.{Bool, true, false, not, ◌||◌}
use native.Mathlib.Omega.{arith}
use lib.ListN.{length}
use lib.Dec.{eqb}
use borrow.Author.Tests.{eqb-true}
use Rattle.lbp16.specs.Pointer.{above_size, pointers_of, lent_pointers}
use Rattle.lbp16.specs.declared.pointer.Pointers.{Pointers}
use Rattle.packet_text.specs.Packet.{packet_left, shown_packet}
use Rattle.head.specs.PacketTextExports.{packet_text_left, lent_left, export_packet_text}

module _ (packet pointers room : List ℕ) where
  abbrev bad : Bool
  bad = not (eqb (length pointers) 8) || above_size (pointers_of pointers)

  pub text-refused : bad ≡ true → packet_text_left 1 0 pointers room ≡ export_packet_text packet pointers room
  unfolding export_packet_text
  text-refused h = rw h refl

  pub text-eight : bad ≡ false → length pointers ≡ 8
  text-eight h = go (eqb (length pointers) 8) refl h
    where
      go : (b : Bool) → eqb (length pointers) 8 ≡ b → (not b || above_size (pointers_of pointers)) ≡ false → length pointers ≡ 8
      go true q e = eqb-true _ _ q
      go false q e = let z : ◌≡◌ {A = ℕ} 0 1 = cc in absurd (omega arith)

  pub text-told : bad ≡ false → (number bytes : ℕ) (after : Pointers) (left : List ℕ) (p : Pointers) → p ≡ pointers_of pointers
      → packet_left number bytes after left ≡ shown_packet p packet room → (told : List ℕ) → told ≡ lent_pointers after
      → packet_text_left number bytes told left ≡ export_packet_text packet pointers room
  unfolding export_packet_text lent_left
  text-told h number bytes after left p q e told t = rw (h, t, ← q) (ap lent_left e)
