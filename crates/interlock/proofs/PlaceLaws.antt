-- The walk for protected writes: where it stands between two commands of an accepted packet, and what its place tells.
use Prim.Native.Nat.{ℕ, zero, suc, ◌+◌, ◌-◌, ◌*◌, ◌≤◌, ◌<◌}
use mathlib.Core.Path.{◌≡◌, refl, sym, ap, ◌∙◌}
use mathlib.Core.List.{List, [], ◌∷◌, ◌++◌}
use mathlib.Core.Bool.{Bool, true, false, not, cond}
use native.Mathlib.Omega.{arith}
use native.Mathlib.Nat.{le_refl, zero-add, mul-zero}
use lib.Dec.{eqb}
use lib.ListN.{length, take, drop, length-take, length-drop}
use borrow.Author.Tests.{eq-eqb, ne_eqb}
use Rattle.lbp16.specs.Space.{space_of}
use Rattle.lbp16.specs.Pointer.{pointer_of, with_pointer, advanced}
use Rattle.lbp16.specs.declared.word.Fields.{Fields}
use Rattle.lbp16.specs.declared.pointer.Pointers.{Pointers}
use Rattle.packet.specs.Bytes.{number}
use Rattle.packet.specs.Step.{Step, is_info}
use Rattle.packet.specs.Rules.{any_step}
use Rattle.packet.specs.Command.{fields_at, kind_of, row_of, header_bytes, command_bytes, address_used, stride, steps_at, pointers_after}
use Rattle.packet.specs.Judge.{Carried, accepted, begin, carry, judge_from, judge}
use Rattle.packet.proofs.SliceLaws.{tail-whole}
use Rattle.packet.specs.Inside.{Passed}
use Rattle.packet.proofs.ElementLaws.{carried-write, carried-read}
use Rattle.packet.proofs.CommandLaws.{command-some, advanced_used}
use Rattle.packet.proofs.ProgressLaws.{Progress, start, progress_of, progress_after, number_at}
use Rattle.packet.proofs.JudgeLaws.{accepted-past}
use Rattle.packet.proofs.LoopLaws.{At, at-begin, at-accepted, at-passed, Turn, at-step}
use Rattle.interlock.specs.Guard.{protected}
use Rattle.interlock.specs.Guarded.{place_from, protected_place}
use Rattle.interlock.proofs.RangeLaws.{or_left, or_right}
use Rattle.interlock.proofs.BlockLaws.{protected-joined}

-- a command has some bytes, as the code has their number
pub some_bytes : (f : Fields) (k : ℕ) → k ≡ command_bytes f → 2 ≤ k
some_bytes f k e = rw e (command-some f)

-- the address used by a command that gives none
pub pointer_used : (p : Pointers) (f : Fields) (rest : List ℕ) → f.address ≡ false → (i : Bool) → i ≡ is_info (kind_of f) → (n : ℕ)
    → n ≡ pointer_of p i (space_of f.space) → n ≡ address_used p f rest
unfolding address_used
pointer_used p f rest e i q n h =
    let pointer = pointer_of p (is_info (kind_of f)) (space_of f.space) in
    h
    ∙ ap (λ (j : Bool). pointer_of p j (space_of f.space)) q
    ∙ sym (ap (λ (b : Bool). cond b (number (take 2 (drop 2 rest))) pointer) e)

-- where a command leaves the pointers, and its bytes, from those of its elements
module _ (f : Fields) (bytes : ℕ) (e : bytes ≡ f.count * (row_of f).element) where
  forward_is : (n : ℕ) → n ≡ cond f.increment bytes 0 → n ≡ f.count * stride f
  unfolding stride
  forward_is n h = h ∙ go f.increment
    where
      go : (b : Bool) → cond b bytes 0 ≡ f.count * cond b (row_of f).element 0
      go true = e
      go false = sym (mul-zero f.count)

  pub moved_on : (p : Pointers) (used n : ℕ) → n ≡ cond f.increment bytes 0 → (i : Bool) → i ≡ is_info (kind_of f) → (m : ℕ)
      → m ≡ advanced used n → (q : Pointers) → q ≡ with_pointer p i (space_of f.space) m
      → q ≡ with_pointer p (is_info (kind_of f)) (space_of f.space) (advanced used (f.count * stride f))
  moved_on p used n h i t m a q w = w ∙ rw (t, a, forward_is n h) refl

  pub whole-write : (h : ℕ) → h ≡ header_bytes f → f.write ≡ true → h + bytes ≡ command_bytes f
  unfolding command_bytes
  whole-write h q w = rw (q, e, carried-write f w) refl

  pub whole-read : (h : ℕ) → h ≡ header_bytes f → f.write ≡ false → h ≡ command_bytes f
  unfolding command_bytes
  whole-read h q w = rw (q, carried-read f w, mul-zero) (omega arith)

-- one command of the walk, and its end
place-turn : (guard : List ℕ) (fuel : ℕ) (p : Pointers) (place : ℕ) (rest : List ℕ) → length rest ≤ fuel → 0 < length rest
    → place_from guard fuel p place rest
    ≡ cond (protected guard (steps_at p (fields_at rest) rest)) place
    (place_from guard (fuel - 1) (pointers_after p (fields_at rest) rest) (place + command_bytes (fields_at rest))
    (drop (command_bytes (fields_at rest)) rest))
unfolding place_from
place-turn guard zero p place rest l some = absurd (omega arith)
place-turn guard (suc fuel) p place [] l some = absurd (omega arith)
place-turn guard (suc fuel) p place (b ∷ bs) l some = let e : suc fuel - 1 ≡ fuel = omega arith in rw e refl

place_end : (guard : List ℕ) (fuel : ℕ) (p : Pointers) (place : ℕ) (rest : List ℕ) → length rest ≡ 0
    → place_from guard fuel p place rest ≡ place
unfolding place_from
place_end guard zero p place rest e = refl
place_end guard (suc fuel) p place [] e = refl
place_end guard (suc fuel) p place (b ∷ bs) e = absurd (omega arith)

-- Once a protected byte is written, that stays so to the packet's end.
some-on : (guard : List ℕ) (fuel : ℕ) (c : Carried) (rest : List ℕ) (end : Carried) → judge_from fuel c rest ≡ accepted end
    → protected guard c.steps ≡ true → protected guard end.steps ≡ true
unfolding judge_from carry
some-on guard zero c rest end e h = let q : c ≡ end = cc in rw q at h
some-on guard (suc fuel) c [] end e h = let q : c ≡ end = cc in rw q at h
some-on guard (suc fuel) c (b ∷ bs) end e h =
    let (next, on) = accepted-past fuel c b bs end e in
    let steps = steps_at c.pointers (fields_at (b ∷ bs)) (b ∷ bs) in
    some-on guard fuel (carry c (b ∷ bs)) _ end on (protected-joined guard c.steps steps ∙ or_left _ _ h)

-- From any command on: some step writes a protected byte exactly if the place is not the packet's end.
tells_from : (guard : List ℕ) (fuel : ℕ) (c : Carried) (rest : List ℕ) (end : Carried) → length rest ≤ fuel
    → judge_from fuel c rest ≡ accepted end → protected guard c.steps ≡ false
    → protected guard end.steps ≡ not (eqb (place_from guard fuel c.pointers c.place rest) (c.place + length rest))
unfolding judge_from carry place_from
tells_from guard zero c [] end l e h =
    let q : c ≡ end = cc in
    let z : c.place ≡ c.place + 0 = omega arith in
    ap (λ (d : Carried). protected guard d.steps) (sym q) ∙ h ∙ sym (ap not (eq-eqb _ _ z))
tells_from guard zero c (b ∷ bs) end l e h = absurd (omega arith)
tells_from guard (suc fuel) c [] end l e h =
    let q : c ≡ end = cc in
    let z : c.place ≡ c.place + 0 = omega arith in
    ap (λ (d : Carried). protected guard d.steps) (sym q) ∙ h ∙ sym (ap not (eq-eqb _ _ z))
tells_from guard (suc fuel) c (b ∷ bs) end l e h =
    let (next, on) = accepted-past fuel c b bs end e in
    let two = some_bytes (fields_at rest) k refl in
    let fewer : length (drop k rest) ≤ fuel = rw length-drop (omega arith) in
    go (protected guard steps) refl on next.whole (tells_from guard fuel (carry c rest) (drop k rest) end fewer on)
  where
    rest : List ℕ
    rest = b ∷ bs

    k : ℕ
    k = command_bytes (fields_at rest)

    steps : List Step
    steps = steps_at c.pointers (fields_at rest) rest

    after : Pointers
    after = pointers_after c.pointers (fields_at rest) rest

    go : (t : Bool) → protected guard steps ≡ t → judge_from fuel (carry c rest) (drop k rest) ≡ accepted end → k ≤ length rest
        → (protected guard (c.steps ++ steps) ≡ false
        → protected guard end.steps ≡ not (eqb (place_from guard fuel after (c.place + k) (drop k rest)) (c.place + k + length (drop k rest))))
        → protected guard end.steps
        ≡ not
        (eqb
        (cond t c.place (place_from guard fuel after (c.place + k) (drop k rest)))
        (c.place + length rest))
    go true q on whole more =
        let here = protected-joined guard c.steps steps ∙ or_right (protected guard c.steps) _ q in
        some-on guard fuel (carry c rest) _ end on here ∙ sym (ap not (ne_eqb c.place (c.place + length rest) (λ z. omega arith)))
    go false q on whole more =
        let place : c.place + k + length (drop k rest) ≡ c.place + length rest = rw length-drop (omega arith) in
        let none : protected guard (c.steps ++ steps) ≡ false = protected-joined guard c.steps steps ∙ rw (h, q) refl in
        more none ∙ ap (λ (n : ℕ). not (eqb (place_from guard fuel after (c.place + k) (drop k rest)) n)) place

-- An accepted packet writes a protected byte exactly if the place is not its length.
pub place_tells : (guard : List ℕ) (p : Pointers) (packet : List ℕ) (end : Carried) → judge p packet ≡ accepted end
    → protected guard end.steps ≡ not (eqb (protected_place guard p packet) (length packet))
unfolding judge begin protected_place protected any_step
place_tells guard p packet end e =
    tells_from guard (length packet) (begin p) packet end (le_refl _) e refl
    ∙ ap (λ (n : ℕ). not (eqb (protected_place guard p packet) n)) (zero-add (length packet))

-- Where the walk stands in an accepted packet.
pub record Walking (guard packet : List ℕ) (p pointers : Pointers) (rest : List ℕ) : Type 0 where
  c : Carried
  g : Progress
  place : ℕ
  at : At p packet c g place rest
  pointed : pointers ≡ c.pointers
  fuel : ℕ
  enough : length rest ≤ fuel
  placed : protected_place guard p packet ≡ place_from guard fuel c.pointers place rest

-- Of any other packet nothing is said.
pub record Walk (guard packet : List ℕ) (p pointers : Pointers) (rest : List ℕ) : Type 0 where
  pub left : length rest ≤ length packet
  pub here : (end : Carried) → judge p packet ≡ accepted end → Walking guard packet p pointers rest

pub walk-begin : (guard packet : List ℕ) (p pointers : Pointers) → pointers ≡ p → Walk guard packet p pointers packet
unfolding protected_place begin
walk-begin guard packet p pointers e =
    record {
      left = le_refl _;
      here =
          λ end a.
          record {
            c = begin p;
            g = start p;
            place = 0;
            at = at-begin p packet;
            pointed = e;
            fuel = length packet;
            enough = le_refl _;
            placed = refl;
          };
    }

module _ {guard packet : List ℕ} {p pointers : Pointers} {rest : List ℕ} (w : Walk guard packet p pointers rest) where
  pub walk_end : length rest ≡ 0 → (end : Carried) → judge p packet ≡ accepted end → length packet ≡ protected_place guard p packet
  walk_end e end a =
      let s = w.here end a in
      let l = s.at.end in
      let place : length packet ≡ s.place = omega arith in
      place ∙ sym (s.placed ∙ place_end guard s.fuel s.c.pointers s.place rest e)

  module _ (more : 0 < length rest) (f : Fields) (read : f ≡ fields_at rest) where
    module _ (end : Carried) (a : judge p packet ≡ accepted end) where
      abbrev s : Walking guard packet p pointers rest
      s = w.here end a

      none : number_at s.g rest ≡ 0
      none = at-accepted rest s.at more end a

      pass : Passed s.c.pointers (progress_of s.c).unlocked (progress_of s.c).reply (fields_at rest) rest
      unfolding progress_of
      pass = rw s.at.progress at (at-passed rest s.at more none)

      turn : (k : ℕ) → k ≡ command_bytes f → Turn p packet s.c (progress_after s.g (fields_at rest) rest) s.place k rest
      turn k b = at-step s.at more k none (b ∙ ap command_bytes read)

      -- a command of an accepted packet is whole
      pub walk-whole : (k : ℕ) → k ≡ command_bytes f → k ≤ length rest
      walk-whole k b = (turn k b).whole

      at_turn : (t : Bool) → t ≡ protected guard (steps_at pointers f rest)
          → protected_place guard p packet
          ≡ cond t s.place
          (place_from guard (s.fuel - 1) (pointers_after s.c.pointers (fields_at rest) rest) (s.place + command_bytes (fields_at rest))
          (drop (command_bytes (fields_at rest)) rest))
      at_turn t h =
          let q : t ≡ protected guard (steps_at s.c.pointers (fields_at rest) rest) = rw (read, s.pointed) at h in
          s.placed ∙ place-turn guard s.fuel s.c.pointers s.place rest s.enough more ∙ rw (← q) refl

      pub walk-found : protected guard (steps_at pointers f rest) ≡ true → length packet - length rest ≡ protected_place guard p packet
      walk-found h =
          let l = s.at.end in
          let place : length packet - length rest ≡ s.place = omega arith in
          place ∙ sym (at_turn true (sym h))

    pub walk-next : protected guard (steps_at pointers f rest) ≡ false → (used : ℕ) → used ≡ address_used pointers f rest
        → (after : Pointers) → after ≡ with_pointer pointers (is_info (kind_of f)) (space_of f.space) (advanced used (f.count * stride f))
        → (k : ℕ) → k ≡ command_bytes f → k ≤ length rest
        → Walk guard packet p after (take (length rest - k) (drop k rest))
    unfolding carry pointers_after
    walk-next h used u after v k b l =
        let left = w.left in
        let two = some_bytes f k b in
        record {
          left = rw (length-take, length-drop) (omega arith);
          here =
              λ end a.
              let s = w.here end a in
              let enough = s.enough in
              let on : after ≡ pointers_after s.c.pointers (fields_at rest) rest =
              rw (u, read, s.pointed, advanced_used _ _ _ (fields_at rest) rest (pass end a)) at v in
              record {
                c = carry s.c rest;
                g = progress_after s.g (fields_at rest) rest;
                place = s.place + k;
                at = (turn end a k b).again;
                pointed = on;
                fuel = s.fuel - 1;
                enough = rw (length-take, length-drop) (omega arith);
                placed = rw (tail-whole, b, read) (at_turn end a false (sym h));
              };
        }
