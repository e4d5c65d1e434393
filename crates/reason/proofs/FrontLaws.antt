-- The bytes before a refused command are an accepted packet: a command sees no byte past its own.
use Prim.Native.Nat.{ℕ, zero, suc, ◌+◌, ◌*◌, ◌≤◌}
use mathlib.Core.Path.{◌≡◌, refl, sym, ap, ◌∙◌}
use mathlib.Core.List.{List, [], ◌++◌, append_assoc}
use mathlib.Core.Bool.{Bool, true, false, cond}
use native.Mathlib.Omega.{arith}
use native.Mathlib.Nat.{suc-mul}
use borrow.Author.Tests.{le-ltb}
use lib.ListN.{length, take, drop, length-append, length-drop, take-append-drop}
use lib.Seq.{take-append-le, drop-append-le, take_at, drop_at, length-take-le}
use Rattle.lbp16.specs.Space.{Space, space_of}
use Rattle.lbp16.specs.Word.{fields_of}
use Rattle.lbp16.specs.declared.word.Fields.{Fields}
use Rattle.lbp16.specs.declared.pointer.Pointers.{Pointers}
use Rattle.packet.specs.Bytes.{number}
use Rattle.packet.specs.Step.{Kind, read, write, infoRead, is_info, carried}
use Rattle.packet.specs.Command.{fields_at, kind_of, header_bytes, command_bytes, address_used, payload, elements, handed, steps_at}
use Rattle.packet.specs.Command.{stride}
use Rattle.packet.specs.Command.{pointers_after}
use Rattle.packet.specs.Judge.{Carried, refused, accepted, begin, carry, judge_from, judge}
use Rattle.packet.specs.Inside.{Passed}
use Rattle.packet.proofs.JudgeLaws.{PassedNext, judged-end, judged-past}
use Rattle.packet.proofs.RefusalLaws.{Reaches, here, past, behind, RefusedAt, refused-in_table}
use Rattle.packet.proofs.CommandLaws.{command-some}

-- Elements see as many bytes as they carry.
payload-front : (k : Kind) (s : Space) (xs ys zs : List ℕ) → is_info k ≡ false → carried k s ≤ length xs
    → payload k s (xs ++ ys) ≡ payload k s (xs ++ zs)
unfolding payload is_info
payload-front read s xs ys zs i l = refl
payload-front write s xs ys zs i l = take-append-le _ xs ys l ∙ sym (take-append-le _ xs zs l)
payload-front infoRead s xs ys zs i l = let z : ◌≡◌ {A = ℕ} 0 1 = cc in absurd (omega arith)

elements-front : (k : Kind) (s : Space) (n a d : ℕ) (xs ys zs : List ℕ) → is_info k ≡ false → n * carried k s ≤ length xs
    → elements k s n a d (xs ++ ys) ≡ elements k s n a d (xs ++ zs)
unfolding elements
elements-front k s zero a d xs ys zs i l = refl
elements-front k s (suc n) a d xs ys zs i l =
    let m : n * carried k s + carried k s ≤ length xs = rw suc-mul at l in
    let c : carried k s ≤ length xs = omega arith in
    rw (
      payload-front k s xs ys zs i c,
      drop-append-le (carried k s) xs ys c,
      drop-append-le (carried k s) xs zs c,
      elements-front k s n (a + d) d (drop (carried k s) xs) ys zs i (rw length-drop (omega arith)),
    ) refl

-- The bytes `front` stand at the front of a list, and at the front of `rest` too.
module _ (front ys rest : List ℕ) (zs : List ℕ) (e : front ++ zs ≡ rest) where
  fields-front : 2 ≤ length front → fields_at (front ++ ys) ≡ fields_at rest
  unfolding fields_at
  fields-front l = one ys ∙ (sym (one zs) ∙ ap fields_at e)
    where
      one : (ts : List ℕ) → fields_at (front ++ ts) ≡ fields_of (number (take 2 front))
      one ts = rw (length-append, le-ltb (length front + length ts) 2 (omega arith), take-append-le 2 front ts l) refl

  address-front : (p : Pointers) (f : Fields) → header_bytes f ≤ length front
      → address_used p f (front ++ ys) ≡ address_used p f rest
  unfolding address_used header_bytes
  address-front p f = go f.address refl
    where
      go : (b : Bool) → f.address ≡ b → cond f.address 4 2 ≤ length front
          → address_used p f (front ++ ys) ≡ address_used p f rest
      go false q l = rw q refl
      go true q l = rw q (one ys (rw q at l) ∙ (sym (one zs (rw q at l)) ∙ ap (λ (r : List ℕ). number (take 2 (drop 2 r))) e))
        where
          one : (ts : List ℕ) → 4 ≤ length front → number (take 2 (drop 2 (front ++ ts))) ≡ number (take 2 (drop 2 front))
          one ts l =
              rw (drop-append-le 2 front ts (omega arith), take-append-le 2 (drop 2 front) ts (rw length-drop (omega arith))) refl

  steps_front : (p : Pointers) (f : Fields) → command_bytes f ≤ length front → steps_at p f (front ++ ys) ≡ steps_at p f rest
  unfolding steps_at handed command_bytes
  steps_front p f l = rw (address-front p f (omega arith)) (go (is_info (kind_of f)) refl)
    where
      go : (b : Bool) → is_info (kind_of f) ≡ b
          → elements (kind_of f) (space_of f.space) f.count (address_used p f rest) (stride f) (handed p f (front ++ ys))
          ≡ elements (kind_of f) (space_of f.space) f.count (address_used p f rest) (stride f) (handed p f rest)
      go true q = rw q refl
      go false q =
          rw (
            q,
            ← e,
            drop-append-le (header_bytes f) front ys (omega arith),
            drop-append-le (header_bytes f) front zs
                (omega arith),
          )
          (elements-front _ _ _ _ _ (drop (header_bytes f) front) ys zs q (rw length-drop (omega arith)))

  passed-front : (p : Pointers) (open? : Bool) (reply : ℕ) (f : Fields) → command_bytes f ≤ length front
      → Passed p open? reply f rest → Passed p open? reply f (front ++ ys)
  unfolding command_bytes
  passed-front p open? reply f l h =
      let header : header_bytes f ≤ length front = omega arith in
      let address = address-front p f header in
      let steps = steps_front p f l in
      record {
        header = rw length-append (omega arith);
        served = h.served;
        present = h.present;
        sized = h.sized;
        some = h.some;
        aligned = rw address h.aligned;
        inside = rw steps h.inside;
        allowed = rw steps h.allowed;
        unlocks = h.unlocks;
        whole = rw length-append (omega arith);
        answers = h.answers;
      }

  carry-front : (c : Carried) → 2 ≤ length front → command_bytes (fields_at rest) ≤ length front
      → carry c (front ++ ys) ≡ carry c rest
  unfolding carry pointers_after command_bytes
  carry-front c two l =
      rw (
        fields-front two,
        address-front c.pointers (fields_at rest) (omega arith),
        steps_front c.pointers
            (fields_at rest) l,
      ) refl

  -- the check of such a list goes past its first command
  front-step : (c end : Carried) → 2 ≤ length front → length front ≡ command_bytes (fields_at rest) → PassedNext c rest
      → ((fuel : ℕ) → length ys ≤ fuel → judge_from fuel (carry c rest) ys ≡ accepted end)
      → (fuel : ℕ) → length (front ++ ys) ≤ fuel → judge_from fuel c (front ++ ys) ≡ accepted end
  front-step c end two k h on zero l = absurd (omega (arith, simp length-append at l))
  front-step c end two k h on (suc fuel) l =
      let m : length front + length ys ≤ suc fuel = rw length-append at l in
      let f = fields-front two in
      judged-past fuel c (front ++ ys) (rw length-append (omega arith))
      (rw f (passed-front c.pointers _ _ (fields_at rest) (omega arith) h))
      ∙ rw (f, carry-front c two (omega arith), drop_at front ys _ k) (on fuel (omega arith))

-- The bytes from one command of a packet to another, past commands that all pass: alone they are accepted.
pub record Front (c end : Carried) (rest left : List ℕ) : Type 0 where
  pub bytes : List ℕ
  pub whole : bytes ++ left ≡ rest
  pub far : c.place + length bytes ≡ end.place
  pub passes : (fuel : ℕ) → length bytes ≤ fuel → judge_from fuel c bytes ≡ accepted end

reach-front : {c end : Carried} {rest left : List ℕ} → Reaches c rest end left → Front c end rest left
unfolding carry
reach-front {c = c} here = record { bytes = []; whole = refl; far = omega arith; passes = λ fuel l. judged-end fuel c }
reach-front {c = c} {end = end} {rest = rest} {left = left} (past n r) =
    let h = reach-front r in
    let k = command_bytes (fields_at rest) in
    let front = take k rest in
    let size : length front ≡ k = length-take-le k rest n.whole in
    let far = h.far in
    record {
      bytes = front ++ h.bytes;
      whole = append_assoc front h.bytes left ∙ (ap (λ (t : List ℕ). front ++ t) h.whole ∙ take-append-drop k rest);
      far = rw length-append (omega arith);
      passes = front-step front h.bytes rest (drop k rest) (take-append-drop k rest) c end
          (omega (arith, command-some (fields_at rest))) size n h.passes;
    }

taken : (xs ys zs : List ℕ) (n : ℕ) → xs ++ ys ≡ zs → length xs ≡ n → take n zs ≡ xs
taken xs ys zs n e l = rw (← e) (take_at xs ys n l)

-- So are those before any command that is reached, with what is carried there.
pub front-reached : (p : Pointers) (packet : List ℕ) {c : Carried} {rest : List ℕ} → Reaches (begin p) packet c rest
    → judge p (take c.place packet) ≡ accepted c
unfolding judge begin
front-reached p packet {c} {rest} r =
    let f = reach-front r in
    let far = f.far in
    let q : take c.place packet ≡ f.bytes = taken f.bytes rest packet c.place f.whole (omega arith) in
    rw q (f.passes _ (omega arith))

-- one command more is reached
pub reaches-next : {c at : Carried} {rest left : List ℕ} → Reaches c rest at left → PassedNext at left
    → Reaches c rest (carry at left) (behind left)
reaches-next here n = past n here
reaches-next (past m r) n = past m (reaches-next r n)

-- The bytes before a command that is refused are accepted.
pub front-judged : (p : Pointers) (packet : List ℕ) (n place : ℕ) → judge p packet ≡ refused n place
    → (end : Carried) × (judge p (take place packet) ≡ accepted end)
front-judged p packet n place e = go (refused-in_table p packet n place e)
  where
    go : RefusedAt p packet n place → (end : Carried) × (judge p (take place packet) ≡ accepted end)
    go r = (r.at, moved r.at_place (front-reached p packet r.before))
      where
        moved : {k : ℕ} → k ≡ place → judge p (take k packet) ≡ accepted r.at → judge p (take place packet) ≡ accepted r.at
        moved q h = rw q at h
