-- Laws of a packet's commands: those of commands after others, and of one element more.
use Prim.Native.Nat.{ℕ, ◌+◌, ◌*◌}
use mathlib.Core.Path.{◌≡◌, refl}
use mathlib.Core.List.{List, [], ◌∷◌, ◌++◌, append_assoc}
use mathlib.Core.Bool.{Bool}
use native.Mathlib.Nat.{suc-mul}
use native.Mathlib.Omega.{arith}
use lib.ListN.{length}
use Rattle.packet.specs.Bytes.{bytes_of}
use Rattle.packet.specs.Step.{Step, unlocked}
use Rattle.packet.proofs.StepLaws.{unlocked-append}
use Rattle.cue.specs.Packing.{Command, join_all, bytes_of_command, bytes_of_packet, element_steps, packet_steps}
use Rattle.cue.proofs.Relations.{Wide, SoundAll, Mixed}

-- bytes and steps of commands after others, and elements after others
pub packet-bytes_append : (cs ds : List Command) → bytes_of_packet (cs ++ ds) ≡ bytes_of_packet cs ++ bytes_of_packet ds
unfolding bytes_of_packet
packet-bytes_append [] ds = refl
packet-bytes_append (c ∷ cs) ds = simp (packet-bytes_append cs ds, append_assoc)

pub packet-steps_append : (cs ds : List Command) → packet_steps (cs ++ ds) ≡ packet_steps cs ++ packet_steps ds
unfolding packet_steps
packet-steps_append [] ds = refl
packet-steps_append (c ∷ cs) ds = simp (packet-steps_append cs ds, append_assoc)

pub join_append : (ds es : List (List ℕ)) → join_all (ds ++ es) ≡ join_all ds ++ join_all es
unfolding join_all
join_append [] es = refl
join_append (d ∷ ds) es = simp (join_append ds es, append_assoc)

-- word and address have four bytes
pub command-length : (c : Command) → length (bytes_of_command c) ≡ 4 + length (join_all c.elements)
unfolding bytes_of_command bytes_of
command-length c = omega arith

-- one element more is one step more
pub element-steps_append : (x : Step) (a d : ℕ) (es : List (List ℕ)) → x.address ≡ a + length es * d
    → element_steps x.kind x.space a d (es ++ (x.bytes ∷ [])) ≡ element_steps x.kind x.space a d es ++ (x ∷ [])
unfolding element_steps
element-steps_append x a d [] h = let q : x.address ≡ a = omega arith in rw (← q)
element-steps_append x a d (e ∷ es) h = rw (element-steps_append x (a + d) d es (omega (arith, suc-mul (length es) d)))

-- one element more, as wide as the others
pub wide-append : {n : ℕ} {es : List (List ℕ)} (e : List ℕ) → Wide n es → length e ≡ n → Wide n (es ++ (e ∷ []))
wide-append e Wide.none h = Wide.more h Wide.none
wide-append e (Wide.more k w) h = Wide.more k (wide-append e w h)

-- steps with their records, after others
pub mixed-append : {ss ts xs ys : List Step} → Mixed ss xs → Mixed ts ys → Mixed (ss ++ ts) (xs ++ ys)
mixed-append Mixed.none n = n
mixed-append (Mixed.same m) n = Mixed.same (mixed-append m n)
mixed-append (Mixed.unlock w v m) n = Mixed.unlock w v (mixed-append m n)

-- commands that are sound after others
pub sound-append : {open? : Bool} {cs ds : List Command} → SoundAll open? cs → SoundAll (unlocked open? (packet_steps cs)) ds
    → SoundAll open? (cs ++ ds)
unfolding packet_steps unlocked
sound-append SoundAll.none t = t
sound-append (SoundAll.more h s) t = SoundAll.more h (sound-append s (rw unlocked-append at t))
