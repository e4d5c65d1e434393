-- What holds of the steps and the commands of an accepted packet.
use Prim.Native.Nat.{ℕ, zero, suc, ◌+◌, ◌*◌, ◌≤◌}
use mathlib.Core.Path.{◌≡◌, refl, sym, ap, ◌∙◌}
use mathlib.Core.List.{List, [], ◌∷◌, ◌++◌}
use mathlib.Core.Bool.{Bool, false, not, ◌||◌, ◌&&◌, cond, or_assoc}
use native.Mathlib.Omega.{arith}
use native.Mathlib.Nat.{suc-mul}
use lib.Dec.{eqb}
use lib.ListN.{length, take, drop, length-take, length-drop}
use borrow.Author.Tests.{eq-eqb}
use Rattle.lbp16.specs.Space.{Space, space_of, row}
use Rattle.lbp16.specs.Pointer.{pointer_of}
use Rattle.lbp16.specs.declared.word.Fields.{Fields}
use Rattle.lbp16.specs.declared.pointer.Pointers.{Pointers}
use Rattle.lbp16.proofs.BoolLaws.{or_false}
use Rattle.packet.specs.Step.{Kind, read, write, infoRead, Step, is_info, is_write, carried}
use Rattle.packet.specs.Rules.{any_step}
use Rattle.packet.specs.Command.{fields_at, kind_of, header_bytes, command_bytes, address_used, stride, payload, elements, bytes_of_area}
use Rattle.packet.specs.Command.{handed, steps_at}
use Rattle.packet.specs.Judge.{Carried, accepted, begin, carry, judge_from, judge}
use Rattle.packet.proofs.StepLaws.{any_append}
use Rattle.packet.proofs.JudgeLaws.{accepted-past}
use Rattle.packet.proofs.RefusalLaws.{all-passed, reaches_keeps}
use Rattle.tight.specs.Tight.{info_step}

pub any_joined : (f : Step → Bool) (ss ts : List Step) → any_step f (ss ++ ts) ≡ (any_step f ss || any_step f ts)
unfolding any_step
any_joined f [] ts = refl
any_joined f (s ∷ ss) ts = rw (any_joined f ss ts) (sym (or_assoc (f s) (any_step f ss) (any_step f ts)))

-- What none of the steps does, none of their parts does.
pub any_split : (f : Step → Bool) (ss ts : List Step) → any_step f (ss ++ ts) ≡ false → (any_step f ss ≡ false) × (any_step f ts ≡ false)
any_split f ss ts e = or_false (any_step f ss) (any_step f ts) (sym (any_joined f ss ts) ∙ e)

-- what holds of no step at the end holds of none before
none_before : (f : Step → Bool) (fuel : ℕ) (c : Carried) (rest : List ℕ) (end : Carried)
    → judge_from fuel c rest ≡ accepted end → any_step f end.steps ≡ false → any_step f c.steps ≡ false
unfolding judge_from carry
none_before f zero c rest end e h = let q : c ≡ end = cc in rw q h
none_before f (suc fuel) c [] end e h = let q : c ≡ end = cc in rw q h
none_before f (suc fuel) c (b ∷ bs) end e h =
    let (next, on) = accepted-past fuel c b bs end e in
    (any_split f c.steps _ (none_before f fuel (carry c (b ∷ bs)) _ end on h)).0

-- a command whose steps are no info reads is none
plain-command : (p : Pointers) (f : Fields) (rest : List ℕ) → 1 ≤ f.count → any_step info_step (steps_at p f rest) ≡ false
    → is_info (kind_of f) ≡ false
unfolding steps_at elements any_step info_step
plain-command p f rest = go f.count _ _ _
  where
    go : (n a d : ℕ) (bytes : List ℕ) → 1 ≤ n → any_step info_step (elements (kind_of f) (space_of f.space) n a d bytes) ≡ false
        → is_info (kind_of f) ≡ false
    go zero a d bytes l e = absurd (omega arith)
    go (suc n) a d bytes l e = (or_false (is_info (kind_of f)) _ e).0

-- No command of an accepted packet without info reads is one.
pub plain-next : (fuel : ℕ) (c : Carried) (b : ℕ) (bs : List ℕ) (end : Carried)
    → judge_from (suc fuel) c (b ∷ bs) ≡ accepted end → any_step info_step end.steps ≡ false
    → is_info (kind_of (fields_at (b ∷ bs))) ≡ false
unfolding carry
plain-next fuel c b bs end e h =
    let (next, on) = accepted-past fuel c b bs end e in
    plain-command c.pointers _ (b ∷ bs) next.some
    (any_split info_step c.steps _ (none_before info_step fuel (carry c (b ∷ bs)) _ end on h)).1

-- Whether there are info reads does not depend on the pointers.
info-elements : (k : Kind) (s : Space) (n a d : ℕ) (bytes : List ℕ) (a' : ℕ) (bytes' : List ℕ)
    → any_step info_step (elements k s n a d bytes) ≡ any_step info_step (elements k s n a' d bytes')
unfolding any_step info_step elements
info-elements k s zero a d bytes a' bytes' = refl
info-elements k s (suc n) a d bytes a' bytes' =
    ap (λ (t : Bool). is_info k || t) (info-elements k s n (a + d) d _ (a' + d) _)

info-from : (fuel : ℕ) (a b : Carried) (rest : List ℕ) (end end' : Carried) → any_step info_step a.steps ≡ any_step info_step b.steps
    → judge_from fuel a rest ≡ accepted end → judge_from fuel b rest ≡ accepted end'
    → any_step info_step end.steps ≡ any_step info_step end'.steps
unfolding judge_from carry steps_at
info-from zero a b rest end end' h e e' =
    let q : a ≡ end = cc in
    let q' : b ≡ end' = cc in
    rw (← q, ← q') h
info-from (suc fuel) a b [] end end' h e e' =
    let q : a ≡ end = cc in
    let q' : b ≡ end' = cc in
    rw (← q, ← q') h
info-from (suc fuel) a b (x ∷ xs) end end' h e e' =
    let (next, on) = accepted-past fuel a x xs end e in
    let (next', on') = accepted-past fuel b x xs end' e' in
    info-from fuel (carry a (x ∷ xs)) (carry b (x ∷ xs)) _ end end'
    (rw (any_joined info_step a.steps, any_joined info_step b.steps, h)
    (ap (λ (t : Bool). any_step info_step b.steps || t) (info-elements _ _ _ _ _ _ _ _)))
    on
    on'

pub info-same : (p q : Pointers) (packet : List ℕ) (end end' : Carried) → judge p packet ≡ accepted end
    → judge q packet ≡ accepted end' → any_step info_step end.steps ≡ any_step info_step end'.steps
unfolding judge begin
info-same p q packet end end' e e' = info-from (length packet) (begin p) (begin q) packet end end' refl e e'

-- a write that has not as many bytes as its element
unfoldable pub missized : Step → Bool
missized s = is_write s.kind && not (eqb (length s.bytes) (carried s.kind s.space))

no_write_sized : (k : Kind) (s : Space) (n a d : ℕ) (bytes : List ℕ) → is_write k ≡ false
    → any_step missized (elements k s n a d bytes) ≡ false
unfolding any_step missized elements
no_write_sized k s zero a d bytes e = refl
no_write_sized k s (suc n) a d bytes e = rw e (no_write_sized k s n (a + d) d _ e)

write-sized : (s : Space) (n a d : ℕ) (bytes : List ℕ) → n * (row s).element ≤ length bytes
    → any_step missized (elements write s n a d bytes) ≡ false
unfolding any_step missized elements payload carried is_write
write-sized s zero a d bytes l = refl
write-sized s (suc n) a d bytes l =
    let m = suc-mul n (row s).element in
    let long : length (take (row s).element bytes) ≡ (row s).element = rw length-take (omega arith) in
    rw (eq-eqb _ _ long) (write-sized s n (a + d) d (drop (row s).element bytes) (rw length-drop (omega arith)))

-- A whole command's writes have as many bytes as their elements.
command-sized : (p : Pointers) (f : Fields) (rest : List ℕ) → command_bytes f ≤ length rest
    → any_step missized (steps_at p f rest) ≡ false
unfolding steps_at command_bytes handed is_info is_write carried
command-sized p f rest l = go (kind_of f) (rw length-drop (omega arith))
  where
    s : Space
    s = space_of f.space

    go : (k : Kind) → f.count * carried k s ≤ length (drop (header_bytes f) rest)
        → any_step missized
        (elements k s f.count (address_used p f rest) (stride f)
        (cond (is_info k) (bytes_of_area s (pointer_of p false s)) (drop (header_bytes f) rest)))
        ≡ false
    go read l = no_write_sized read s _ _ _ _ refl
    go write l = write-sized s _ _ _ _ l
    go infoRead l = no_write_sized infoRead s _ _ _ _ refl

-- So have those of an accepted packet.
pub accepted-sized : (p : Pointers) (packet : List ℕ) (end : Carried) → judge p packet ≡ accepted end
    → any_step missized end.steps ≡ false
unfolding begin any_step carry
accepted-sized p packet end e =
    reaches_keeps (λ c _. any_step missized c.steps ≡ false)
    (λ c rest n h. any_append missized c.steps _ h (command-sized c.pointers (fields_at rest) rest n.whole))
    (all-passed p packet end e)
    refl
