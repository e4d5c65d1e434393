-- A command that no rule refuses, at the front of a list's bytes.
use Prim.Native.Nat.{ℕ, zero, suc, ◌-◌, ◌*◌, ◌≤◌}
use mathlib.Core.Path.{◌≡◌, refl, sym, ◌∙◌}
use mathlib.Core.List.{List, [], ◌∷◌}
use mathlib.Core.Bool.{Bool, true, false, not, ◌&&◌, ◌||◌, cond}
use native.Mathlib.Omega.{arith}
use lib.Dec.{eqb, ltb}
use lib.ListN.{length, take, drop, length-drop}
use Rattle.lbp16.specs.Space.{Space, space_of}
use Rattle.lbp16.specs.declared.word.Fields.{Fields}
use Rattle.lbp16.specs.declared.pointer.Pointers.{Pointers}
use Rattle.lbp16.proofs.SpaceLaws.{area_bytes_le}
use Rattle.packet.specs.Step.{Kind, read, write, infoRead, Step, is_info, is_write, carried, row_by}
use Rattle.packet.specs.Rules.{any_step, past_end}
use Rattle.packet.specs.Command.{pick_kind, kind_of, header_bytes, command_bytes, address_used, stride, elements, handed, steps_at}
use Rattle.packet.proofs.SliceLaws.{tail-whole}
use Rattle.packet.proofs.CommandLaws.{last-inside}
use Rattle.packet.specs.Inside.{Passed}
use Rattle.cue.specs.Records.{record_step, record_kind, record_bytes, mark_at, write_mark}
use Rattle.tight.specs.Tight.{Doing, none, steps, info_step, plain_only, unlocks, same_kind, same_step}
use Rattle.tight.specs.Inside.{step_takes, further, and_then, steps_take, doing_takes}
use Rattle.std.proofs.Common.{Option, Some, None}
use Rattle.tight.proofs.TakeLaws.{first-rejected}

-- No record is an info read.
info-kind : (k : Kind) (w : Bool) → is_info k ≡ true → same_kind k (pick_kind w) ≡ false
unfolding same_kind is_info is_write
info-kind infoRead true e = refl
info-kind infoRead false e = refl
info-kind read w e = let z : ◌≡◌ {A = ℕ} 0 1 = cc in absurd (omega arith)
info-kind write w e = let z : ◌≡◌ {A = ℕ} 0 1 = cc in absurd (omega arith)

info-other : (s : Step) (rest : List ℕ) → is_info s.kind ≡ true → same_step s (record_step rest) ≡ false
unfolding same_step record_step record_kind
info-other s rest e = rw (info-kind s.kind (eqb (mark_at rest) write_mark) e)

info-plain : (k : Kind) → is_info k ≡ true → is_write k ≡ false
unfolding is_info is_write
info-plain infoRead e = refl
info-plain read e = refl
info-plain write e = let z : ◌≡◌ {A = ℕ} 0 1 = cc in absurd (omega arith)

info-step : (s : Step) (rest : List ℕ) → is_info s.kind ≡ true → step_takes s rest ≡ None
unfolding step_takes unlocks
info-step s rest e = rw (info-plain s.kind e, info-other s rest e) (neither (ltb (length rest) (record_bytes (record_kind rest))))
  where
    neither : (t : Bool) → cond (not t && false) (Some (record_bytes (record_kind rest))) None ≡ None
    neither true = refl
    neither false = refl

-- Steps with an info read among them are rejected, so that it does not matter whether they are left out before.
info-among : (ss : List Step) (list : List ℕ) → any_step info_step ss ≡ true → steps_take ss list ≡ None
unfolding any_step info_step steps_take and_then further
info-among [] list e = let z : ◌≡◌ {A = ℕ} 0 1 = cc in absurd (omega arith)
info-among (s ∷ ss) list e = go (is_info s.kind) refl (info-among ss) e
  where
    behind : (t : Option ℕ) → ((k : ℕ) → steps_take ss (drop k list) ≡ None)
        → and_then t (λ k. steps_take ss (drop k list)) ≡ None
    behind None h = refl
    behind (Some k) h = rw (h k)

    go : (i : Bool) → is_info s.kind ≡ i → ((rest : List ℕ) → any_step info_step ss ≡ true → steps_take ss rest ≡ None)
        → (i || any_step info_step ss) ≡ true → and_then (step_takes s list) (λ k. steps_take ss (drop k list)) ≡ None
    go true i more e = rw (info-step s list i)
    go false i more e = behind (step_takes s list) (λ k. more (drop k list) e)

pub plain-takes : (d : Doing) (list : List ℕ) → doing_takes (plain_only d) list ≡ doing_takes d list
unfolding doing_takes plain_only
plain-takes none list = refl
plain-takes (steps ss) list = go (any_step info_step ss) refl
  where
    go : (i : Bool) → any_step info_step ss ≡ i → doing_takes (cond i none (steps ss)) list ≡ steps_take ss list
    go true i = sym (info-among ss list i)
    go false i = refl

info-elements : (k : Kind) (s : Space) (n a d : ℕ) (bytes list : List ℕ) → is_info k ≡ true → 1 ≤ n
    → steps_take (elements k s n a d bytes) list ≡ None
unfolding elements
info-elements k s zero a d bytes list e l = absurd (omega arith)
info-elements k s (suc n) a d bytes list e l = first-rejected _ _ list (info-step _ list e)

-- the address used is within its space
used_inside : (k : Kind) (s : Space) (n a d : ℕ) (bytes : List ℕ) → 1 ≤ n → any_step past_end (elements k s n a d bytes) ≡ false
    → a ≤ (row_by k s).bytes
used_inside k s zero a d bytes l e = absurd (omega arith)
used_inside k s (suc n) a d bytes l e = let h = last-inside k s n a d bytes e in omega arith

module _ {p : Pointers} {open? : Bool} {reply : ℕ} {f : Fields} {rest : List ℕ} (c : Passed p open? reply f rest) where
  pub info-rejected : (list : List ℕ) → is_info (kind_of f) ≡ true → None ≡ steps_take (steps_at p f rest) list
  unfolding steps_at
  info-rejected list e = sym (info-elements _ _ _ _ _ _ list e c.some)

  pub used_low : address_used p f rest ≤ 65536
  unfolding steps_at row_by
  used_low =
      let h = used_inside _ _ _ _ _ _ c.some c.inside in
      let l = area_bytes_le (is_info (kind_of f)) (space_of f.space) in
      omega arith

  pub bytes-behind : (h : ℕ) → h ≡ header_bytes f
      → f.count * carried (kind_of f) (space_of f.space) ≤ length (take (length rest - h) (drop h rest))
  unfolding command_bytes
  bytes-behind h e = let w = c.whole in rw (tail-whole, length-drop, e) (omega arith)

  -- what the code says of the elements, handed the bytes behind the header
  pub plain-taken : (list : List ℕ) → is_info (kind_of f) ≡ false → (used h : ℕ) → used ≡ address_used p f rest → h ≡ header_bytes f
      → (t : Option ℕ)
      → t
      ≡ steps_take
      (elements (kind_of f) (space_of f.space) f.count used (stride f) (take (length rest - h) (drop h rest)))
      list
      → t ≡ steps_take (steps_at p f rest) list
  unfolding steps_at handed
  plain-taken list e used h u b t q = q ∙ rw (tail-whole, u, b, e)
