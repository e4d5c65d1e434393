-- What a command is found in, and what it leaves.
use Prim.Native.Nat.{ℕ, ◌+◌, ◌*◌}
use mathlib.Core.Path.{◌≡◌, refl}
use mathlib.Core.List.{List}
use mathlib.Core.Bool.{Bool, false}
use Rattle.lbp16.specs.Space.{space_of}
use Rattle.lbp16.specs.Pointer.{with_pointer, advanced}
use Rattle.lbp16.specs.declared.word.Fields.{Fields}
use Rattle.lbp16.specs.declared.pointer.Pointers.{Pointers}
use Rattle.packet.specs.Step.{is_info, unlocked, answered, reply_bytes}
use Rattle.packet.specs.Rules.{first}
use Rattle.packet.specs.Command.{fields_at, kind_of, address_used, stride, steps_at, refusals, pointers_after}
use Rattle.packet.specs.Judge.{Carried}
use Rattle.packet.specs.Inside.{Passed, unlocked_by}
use Rattle.packet.proofs.UnlockLaws.{unlock-handed}
use Rattle.packet.proofs.CommandLaws.{advanced_used, reply-of_command}

-- What the commands before this one leave: the pointers, whether the unlock is open, the reply's bytes so far.
pub record Progress : Type 0 where
  pub pointers : Pointers
  pub unlocked : Bool
  pub reply : ℕ

-- where a packet begins, after the commands so far, and after one more
unfoldable pub start : Pointers → Progress
start p = record { pointers = p; unlocked = false; reply = 0 }

unfoldable pub progress_of : Carried → Progress
progress_of c = record { pointers = c.pointers; unlocked = unlocked false c.steps; reply = reply_bytes c.steps }

unfoldable pub progress_after : Progress → Fields → List ℕ → Progress
progress_after g f rest =
    let steps = steps_at g.pointers f rest in
    record {
      pointers = pointers_after g.pointers f rest;
      unlocked = unlocked g.unlocked steps;
      reply = g.reply + reply_bytes steps;
    }

-- the number that the refusal table gives for the command at the front
abbrev pub number_at : Progress → List ℕ → ℕ
number_at g rest = first (refusals g.pointers g.unlocked g.reply (fields_at rest) rest)

-- the progress after a command that passes, from its parts
pub progress-is : (g : Progress) (f : Fields) (rest : List ℕ) → Passed g.pointers g.unlocked g.reply f rest
    → (used answers : ℕ) (p : Pointers) (o : Bool) → used ≡ address_used g.pointers f rest
    → p ≡ with_pointer g.pointers (is_info (kind_of f)) (space_of f.space) (advanced used (f.count * stride f))
    → o ≡ unlocked_by g.unlocked f used rest
    → answers ≡ f.count * answered (kind_of f) (space_of f.space)
    → ◌≡◌ {A = Progress} (record { pointers = p; unlocked = o; reply = g.reply + answers }) (progress_after g f rest)
unfolding progress_after pointers_after
progress-is g f rest h used answers p o e₁ e₂ e₃ e₄ =
    rw (e₂, e₃, e₄, e₁, advanced_used _ _ _ f rest h, ← unlock-handed g.unlocked g.pointers f rest, ← reply-of_command g.pointers f rest) refl
