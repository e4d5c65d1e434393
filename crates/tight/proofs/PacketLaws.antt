-- A packet's commands, taken one after the other.
use Prim.Native.Nat.{ℕ, zero, suc, ◌+◌, ◌-◌, ◌*◌, ◌≤◌, ◌<◌}
use mathlib.Core.Path.{◌≡◌, refl, sym, ap, ◌∙◌}
use mathlib.Core.List.{List, [], ◌∷◌}
use native.Mathlib.Omega.{arith}
use lib.ListN.{length, take, drop}
use borrow.Author.Tests.{lt-ltb, le-ltb}
use Rattle.lbp16.specs.Answer.{Answer}
use Rattle.lbp16.specs.Space.{space_of}
use Rattle.lbp16.specs.Pointer.{with_pointer, advanced}
use Rattle.lbp16.specs.declared.pointer.Pointers.{Pointers}
use Rattle.lbp16.specs.declared.word.Fields.{Fields}
use Rattle.packet.specs.Step.{is_info}
use Rattle.packet.specs.Command.{limit, fields_at, kind_of, command_bytes, address_used, stride, steps_at}
use Rattle.packet.specs.Command.{pointers_after}
use Rattle.packet.specs.Judge.{Carried, Verdict, accepted, refused, begin, carry, found_next, verdict_at, judge_from, judge}
use Rattle.packet.specs.Verdict.{answer_to}
use Rattle.packet.proofs.ProgressLaws.{Progress, start, progress_of, progress_after, number_at}
use Rattle.packet.proofs.SliceLaws.{tail-whole}
use Rattle.packet.proofs.CommandLaws.{advanced_used}
use Rattle.packet.specs.Inside.{Passed}
use Rattle.packet.proofs.LoopLaws.{At, at-begin, at-end, at-accepted, at-passed, at_next, Turn, at-step}
use Rattle.card.specs.Inside.{LetPass}
use Rattle.tight.specs.Tight.{none, done_by, packet_does}
use Rattle.tight.specs.Inside.{unset, from_unset, further, steps_take, doing_takes, packet_takes}
use Rattle.std.proofs.Common.{Option, Some, None}
use Rattle.tight.proofs.PointerLaws.{does-is}
use Rattle.tight.proofs.TakeLaws.{append-rejected, append-taken, steps-within}
use Rattle.tight.proofs.CommandLaws.{plain-takes}

-- Once the steps so far are rejected, so is the packet, whatever follows.
rejected-on : (fuel : ℕ) (c : Carried) (rest list : List ℕ) → steps_take c.steps list ≡ None
    → doing_takes (done_by (judge_from fuel c rest)) list ≡ None
unfolding judge_from done_by doing_takes carry
rejected-on zero c rest list e = e
rejected-on (suc fuel) c [] list e = e
rejected-on (suc fuel) c (b ∷ bs) list e =
    go (found_next c (b ∷ bs)).which _
    (rejected-on fuel (carry c (b ∷ bs)) (drop (command_bytes (fields_at (b ∷ bs))) (b ∷ bs)) list
    (append-rejected c.steps (steps_at c.pointers (fields_at (b ∷ bs)) (b ∷ bs)) list e))
  where
    go : (w : Answer) (v : Verdict) → doing_takes (done_by v) list ≡ None
        → doing_takes (done_by (verdict_at w v)) list ≡ None
    go (Answer.accepted values) v h = h
    go (Answer.refused n place) v h = refl

-- the check's answer as the code has it
refused_none : (v : Verdict) (n place : ℕ) → Answer.refused n place ≡ answer_to v → done_by v ≡ none
unfolding answer_to done_by
refused_none (refused m i) n place e = refl
refused_none (accepted c) n place e = let z : ◌≡◌ {A = ℕ} 0 1 = cc in absurd (omega arith)

-- a packet that is too long, and one that is not
pub packet-long : (packet list : List ℕ) → limit < length packet → None ≡ packet_takes packet list
unfolding packet_takes packet_does doing_takes
packet-long packet list h = rw (lt-ltb limit (length packet) h)

module _ (packet list : List ℕ) (short : length packet ≤ limit) (p : Pointers) (e : p ≡ unset) where
  pub packet-short : packet_takes packet list ≡ doing_takes (done_by (judge p packet)) list
  unfolding packet_takes from_unset
  packet-short = rw (does-is packet, le-ltb limit (length packet) short, e) (plain-takes (done_by (judge unset packet)) list)

  pub packet-refused : (n place : ℕ) → Answer.refused n place ≡ answer_to (judge p packet) → None ≡ packet_takes packet list
  unfolding doing_takes
  packet-refused n place r = sym (packet-short ∙ rw (refused_none _ n place r) refl)

-- Between two commands of an accepted packet: c is carried, and its steps have taken so many bytes.
pub record Going (p : Pointers) (packet list : List ℕ) (pointers : Pointers) (rest : List ℕ) (taken : ℕ) : Type 0 where
  last : Carried
  accepts : judge p packet ≡ accepted last
  c : Carried
  g : Progress
  place : ℕ
  at : At p packet c g place rest
  pointed : pointers ≡ c.pointers
  taken_is : steps_take c.steps list ≡ Some taken

pub going-first : (p : Pointers) (packet list : List ℕ) → (c : Carried) × (judge p packet ≡ accepted c)
    → Going p packet list p packet 0
unfolding steps_take begin
going-first p packet list (last, a) =
    record {
      last = last;
      accepts = a;
      c = begin p;
      g = start p;
      place = 0;
      at = at-begin p packet;
      pointed = refl;
      taken_is = refl;
    }

module _ {p : Pointers} {packet list : List ℕ} {pointers : Pointers} {rest : List ℕ} {taken : ℕ}
    (s : Going p packet list pointers rest taken) where
  pub taken-within : taken ≤ length list
  taken-within = steps-within _ list taken s.taken_is

  pub going-last : length rest ≡ 0 → Some taken ≡ doing_takes (done_by (judge p packet)) list
  unfolding done_by doing_takes
  going-last e = sym (rw (at-end rest s.at e) s.taken_is)

-- The next command, as the code finds it.
pub record Here (p : Pointers) (packet list : List ℕ) (pointers : Pointers) (rest : List ℕ) (taken : ℕ) (f : Fields) : Type 0 where
  pub going : Going p packet list pointers rest taken
  pub more : 0 < length rest
  pub read : f ≡ fields_at rest

module _ {p : Pointers} {packet list : List ℕ} {pointers : Pointers} {rest : List ℕ} {taken : ℕ} {f : Fields}
    (h : Here p packet list pointers rest taken f) where
  abbrev s : Going p packet list pointers rest taken
  s = h.going

  none-refuses : number_at s.g rest ≡ 0
  none-refuses = at-accepted rest s.at h.more s.last s.accepts

  pass : Passed s.c.pointers (progress_of s.c).unlocked (progress_of s.c).reply (fields_at rest) rest
  unfolding progress_of
  pass = rw s.at.progress at (at-passed rest s.at h.more none-refuses)

  pub passed_here : LetPass pointers f rest
  passed_here = rw (h.read, s.pointed) (record { open? = _; reply = _; passed = pass })

  -- the bytes that the command takes, behind those taken
  module _ (next : Option ℕ) (q : next ≡ steps_take (steps_at pointers f rest) (take (length list - taken) (drop taken list))) where
    steps-here : steps_take (carry s.c rest).steps list ≡ further taken next
    unfolding carry
    steps-here =
        let steps = steps_at s.c.pointers (fields_at rest) rest in
        let t : next ≡ steps_take steps (drop taken list) = rw (tail-whole, h.read, s.pointed) at q in
        append-taken s.c.steps steps list taken s.taken_is ∙ ap (further taken) (sym t)

    pub going-rejected : next ≡ None → None ≡ doing_takes (done_by (judge p packet)) list
    unfolding further
    going-rejected r =
        let a = at_next rest s.at h.more none-refuses in
        sym
        (ap (λ v. doing_takes (done_by v) list) a.same
        ∙ rejected-on a.fuel (carry s.c rest) _ list (steps-here ∙ ap (further taken) r))

    pub more_within : (j : ℕ) → next ≡ Some j → taken + j ≤ length list
    unfolding further
    more_within j r = steps-within (carry s.c rest).steps list (taken + j) (steps-here ∙ ap (further taken) r)

  -- the command's bytes
  module _ (k : ℕ) (b : k ≡ command_bytes f) where
    turn : Turn p packet s.c (progress_after s.g (fields_at rest) rest) s.place k rest
    turn = at-step s.at h.more k none-refuses (b ∙ ap command_bytes h.read)

    pub command-some : 2 ≤ k
    command-some = turn.some

    pub command-within : k ≤ length rest
    command-within = turn.whole

    pub going_next : (next : Option ℕ)
        → next ≡ steps_take (steps_at pointers f rest) (take (length list - taken) (drop taken list))
        → (j : ℕ) → next ≡ Some j → (used : ℕ) → used ≡ address_used pointers f rest → (after : Pointers)
        → after ≡ with_pointer pointers (is_info (kind_of f)) (space_of f.space) (advanced used (f.count * stride f))
        → Going p packet list after (take (length rest - k) (drop k rest)) (taken + j)
    unfolding further carry pointers_after
    going_next next q j r used u after w =
        let on : after ≡ pointers_after s.c.pointers (fields_at rest) rest =
        rw (u, h.read, s.pointed, advanced_used _ _ _ (fields_at rest) rest pass) at w in
        record {
          last = s.last;
          accepts = s.accepts;
          c = carry s.c rest;
          g = progress_after s.g (fields_at rest) rest;
          place = s.place + k;
          at = turn.again;
          pointed = on;
          taken_is = steps-here next q ∙ ap (further taken) r;
        }
