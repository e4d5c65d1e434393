-- The run's loop: after each command the store and the reply are those of the steps so far.
use Prim.Native.Nat.{ℕ, ◌+◌, ◌-◌, ◌*◌, ◌≤◌, ◌<◌}
use mathlib.Core.Path.{◌≡◌, refl, sym, ap, ◌∙◌}
use mathlib.Core.Bool.{Bool, false}
use mathlib.Core.List.{List, ◌++◌, append_assoc}
use native.Mathlib.Omega.{arith}
use lib.ListN.{length, take, drop, set, length-append, length-drop, length-set}
use lib.Seq.{take_at, drop_at, drop-drop}
use Rattle.lbp16.specs.Space.{space_of, store_bytes}
use Rattle.lbp16.specs.declared.pointer.Pointers.{Pointers}
use Rattle.packet.specs.Step.{answered, store_after, values_read, reply_bytes, unlocked}
use Rattle.packet.specs.Command.{limit, fields_at, kind_of, command_bytes, steps_at, pointers_after}
use Rattle.packet.proofs.ProgressLaws.{Progress, start, progress_of, progress_after, number_at}
use Rattle.packet.specs.Judge.{Carried, begin, carry, judge, Verdict, accepted, refused}
use Rattle.lbp16.specs.Pointer.{pointers_of, lent_pointers}
use Rattle.lbp16.specs.declared.word.Fields.{Fields}
use Rattle.packet.proofs.StepLaws.{reply-append}
use Rattle.packet.proofs.StoreLaws.{length-after, length-values, store-after_append, values-read_append}
use Rattle.packet.proofs.CommandLaws.{advanced_used, reply-of_command}
use Rattle.packet.specs.Inside.{Passed}
use Rattle.packet.proofs.InfoLaws.{command-whole}
use Rattle.packet.proofs.LoopLaws.{At, Turn, at-begin, at-end, at-passed, at-accepted, at-step}
use Rattle.packet.proofs.CountLaws.{command-elements, few, Paid, paid-start, paid-next}
use Rattle.packet.specs.Reach.{reach_from, reach_at}
use Rattle.packet.specs.declared.command.Reach.{Reach}
use Rattle.lbp16.proofs.PointerLaws.{lent_back, slot-below, slot-written}
use Rattle.card.specs.Inside.{IsAccepted, Ready, Performed, laid}

-- Where the loop stands: the commands before `rest` are done.
pub record Doing (lent packet store₀ reply₀ store pointers reply : List ℕ) (filled elements : ℕ) (rest : List ℕ) : Type 0 where
  pub carried : Carried
  pub here : At (pointers_of lent) packet carried (progress_of carried) carried.place rest
  pub fine : IsAccepted (judge (pointers_of lent) packet)
  pub store_bytes_lem : length store₀ ≡ store_bytes
  pub reply-bytes : length reply₀ ≡ limit
  pub eight : length pointers ≡ 8
  pub pointed : pointers_of pointers ≡ carried.pointers
  pub store_is : store ≡ store_after carried.steps store₀
  pub reply-is : reply
      ≡ values_read carried.steps store₀ ++ drop (length (values_read carried.steps store₀)) reply₀
  pub filled_is : filled ≡ reply_bytes carried.steps
  pub count : length (values_read carried.steps store₀) ≡ filled
  pub within : filled ≤ limit
  pub moved : elements ≡ length carried.steps
  pub paid : Paid carried

pub doing-start : (lent packet store reply : List ℕ) → IsAccepted (judge (pointers_of lent) packet) → length store ≡ store_bytes
    → length lent ≡ 8 → length reply ≡ limit → Doing lent packet store reply store lent reply 0 0 packet
unfolding begin store_after values_read start progress_of reply_bytes unlocked
doing-start lent packet store reply a s l r =
    record {
      carried = begin (pointers_of lent);
      here = at-begin (pointers_of lent) packet;
      fine = a;
      store_bytes_lem = s;
      reply-bytes = r;
      eight = l;
      pointed = refl;
      store_is = refl;
      reply-is = refl;
      filled_is = refl;
      count = refl;
      within = omega arith;
      moved = refl;
      paid = paid-start (pointers_of lent);
    }

-- where the check's loop stands, told by what is carried alone
settled : {p : Pointers} {packet : List ℕ} {c : Carried} {g : Progress} {place : ℕ} {rest : List ℕ} → At p packet c g place rest
    → At p packet c (progress_of c) c.place rest
settled a =
    record { fuel = a.fuel; same = a.same; enough = a.enough; progress = refl; at = refl; end = rw (← a.at) a.end }

is-accepted : (v : Verdict) → IsAccepted v → (c : Carried) × (v ≡ accepted c)
is-accepted (refused n place) a = absurd a
is-accepted (accepted c) a = (c, refl)

-- values put into a reply behind those that stand there
values-behind : (us vs old reply : List ℕ) (n : ℕ) → length us ≡ n → reply ≡ us ++ drop n old
    → laid n vs reply ≡ (us ++ vs) ++ drop (length (us ++ vs)) old
unfolding laid
values-behind us vs old reply n l e =
    let head : take n reply ≡ us = ap (take n) e ∙ take_at us _ n l in
    let tail : drop n reply ≡ drop n old = ap (drop n) e ∙ drop_at us _ n l in
    rw (head, tail, length-append, l, drop-drop) (sym (append_assoc us vs _))

-- What doing the next command asks.
pub record Next (pointers : List ℕ) (filled : ℕ) (f : Fields) (r : Reach) (rest store reply : List ℕ) : Type 0 where
  pub ready : Ready pointers f rest r
  pub store_bytes_lem : length store ≡ store_bytes
  pub room : filled + f.count * answered (kind_of f) (space_of f.space) ≤ length reply
  pub slot : r.slot < length pointers
  pub answers : filled + r.answered ≤ limit

module _ {lent packet store₀ reply₀ store pointers reply : List ℕ} {filled elements : ℕ} {rest : List ℕ}
    (s : Doing lent packet store₀ reply₀ store pointers reply filled elements rest) where
  pub length-store : length store ≡ length store₀
  length-store = ap length s.store_is ∙ length-after _ store₀

  pub length-reply : length reply ≡ limit
  length-reply =
      let l = s.within in
      let c = s.count in
      let r = s.reply-bytes in
      ap length s.reply-is ∙ rw (length-append, length-drop) (omega arith)

  pub doing_end : length rest ≡ 0 → Performed packet store₀ reply₀ lent store reply pointers elements
  doing_end e =
      record {
        carried = s.carried;
        judged = at-end rest s.here e;
        stored = s.store_is;
        replied = s.reply-is;
        pointed = sym (lent_back pointers s.eight) ∙ ap lent_pointers s.pointed;
        moved = s.moved;
      }

-- the pointers after a command, as the code finds them
pointers-next : {p : Pointers} {open? : Bool} {reply : ℕ} (pointers rest : List ℕ) (r : Reach) → length pointers ≡ 8
    → pointers_of pointers ≡ p → Passed p open? reply (fields_at rest) rest → r ≡ reach_at (pointers_of pointers) (fields_at rest) rest
    → pointers_of (set pointers r.slot r.next) ≡ pointers_after p (fields_at rest) rest
unfolding pointers_after reach_from
pointers-next pointers rest r l e pass reach =
    rw (ap (λ (t : Reach). t.slot) reach, ap (λ (t : Reach). t.next) reach)
    (slot-written pointers l _ _ _ pass.present ∙ rw (e, advanced_used _ _ _ (fields_at rest) rest pass) refl)

-- The next command, as the code finds it.
pub record Here (lent packet store₀ reply₀ store pointers reply : List ℕ) (filled elements : ℕ) (rest : List ℕ) (f : Fields) (r : Reach) : Type 0 where
  pub doing : Doing lent packet store₀ reply₀ store pointers reply filled elements rest
  pub some : 0 < length rest
  pub read : f ≡ fields_at rest
  pub reach : r ≡ reach_at (pointers_of pointers) (fields_at rest) rest

module _ {lent packet store₀ reply₀ store pointers reply : List ℕ} {filled elements : ℕ} {rest : List ℕ} {f : Fields} {r : Reach}
    (h : Here lent packet store₀ reply₀ store pointers reply filled elements rest f r) where
  abbrev s : Doing lent packet store₀ reply₀ store pointers reply filled elements rest
  s = h.doing

  abbrev some : 0 < length rest
  some = h.some

  abbrev e : f ≡ fields_at rest
  e = h.read

  abbrev reach : r ≡ reach_at (pointers_of pointers) (fields_at rest) rest
  reach = h.reach

  abbrev c : Carried
  c = s.carried

  none : number_at (progress_of c) rest ≡ 0
  none = let (end, a) = is-accepted _ s.fine in at-accepted rest s.here some end a

  pass : Passed c.pointers (unlocked false c.steps) (reply_bytes c.steps) (fields_at rest) rest
  unfolding progress_of
  pass = at-passed rest s.here some none

  bytes : r.bytes ≡ command_bytes (fields_at rest)
  unfolding reach_from
  bytes = ap (λ (t : Reach). t.bytes) reach

  answers-is : r.answered ≡ f.count * answered (kind_of f) (space_of f.space)
  unfolding reach_from
  answers-is = rw e (ap (λ (t : Reach). t.answered) reach)

  pub next : Next pointers filled f r rest store reply
  unfolding reach_from
  next =
      let l = pass.answers in
      let q = length-reply s in
      let n : filled + f.count * answered (kind_of f) (space_of f.space) ≤ limit = rw (e, s.filled_is) l in
      let a = answers-is in
      record {
        ready = record {
          passed = rw (e, s.pointed) (record { open? = _; reply = _; passed = pass });
          reach = rw e reach;
        };
        store_bytes_lem = length-store s ∙ s.store_bytes_lem;
        room = omega arith;
        slot = rw (s.eight, ap (λ (t : Reach). t.slot) reach) (slot-below _ _ pass.present);
        answers = omega arith;
      }

  pub turn : Turn (pointers_of lent) packet c (progress_after (progress_of c) (fields_at rest) rest) c.place r.bytes rest
  turn = at-step s.here some r.bytes none bytes

  pub doing-next : (store' reply' : List ℕ) → store' ≡ store_after (steps_at (pointers_of pointers) f rest) store
      → reply' ≡ laid filled (values_read (steps_at (pointers_of pointers) f rest) store) reply
      → (elements' : ℕ) → elements' ≡ elements + f.count
      → Doing lent packet store₀ reply₀ store' (set pointers r.slot r.next) reply' (filled + r.answered) elements'
      (take (length rest - r.bytes) (drop r.bytes rest))
  unfolding carry progress_of
  doing-next store' reply' e₁ e₂ elements' e₆ =
      let steps = steps_at c.pointers (fields_at rest) rest in
      let left : store' ≡ store_after steps store = rw (e, s.pointed) at e₁ in
      let back : reply' ≡ laid filled (values_read steps store) reply = rw (e, s.pointed) at e₂ in
      let seen_bytes : length (values_read steps store) ≡ reply_bytes steps =
      length-values steps store (length-store s ∙ s.store_bytes_lem) (command-whole c.pointers (fields_at rest) rest)
      pass.inside in
      let seen : values_read (c.steps ++ steps) store₀ ≡ values_read c.steps store₀ ++ values_read steps store =
      values-read_append c.steps steps store₀
      ∙ ap (λ (t : List ℕ). values_read c.steps store₀ ++ values_read steps t) (sym s.store_is) in
      let more-is : r.answered ≡ reply_bytes steps = rw (reply-of_command c.pointers (fields_at rest) rest, ← e) answers-is in
      record {
        carried = carry c rest;
        here = settled turn.again;
        fine = s.fine;
        store_bytes_lem = s.store_bytes_lem;
        reply-bytes = s.reply-bytes;
        eight = length-set pointers r.slot r.next ∙ s.eight;
        pointed = pointers-next pointers rest r s.eight s.pointed pass reach;
        store_is = left ∙ ap (store_after steps) s.store_is ∙ sym (store-after_append c.steps steps store₀);
        reply-is =
            rw seen
            (back
            ∙ values-behind (values_read c.steps store₀) (values_read steps store) reply₀ reply filled s.count
            (s.reply-is ∙ rw s.count refl));
        filled_is = let g = reply-append c.steps steps in let n = s.filled_is in omega arith;
        count = rw (seen, length-append, seen_bytes, s.count) (ap (λ (n : ℕ). filled + n) (sym more-is));
        within = next.answers;
        moved =
            e₆
            ∙ ap (λ (g : Fields). elements + g.count) e
            ∙ rw (length-append, command-elements c.pointers (fields_at rest) rest)
            (ap (λ (n : ℕ). n + (fields_at rest).count) s.moved);
        paid = paid-next c rest pass.present s.paid;
      }

  -- the count stays small
  pub count_small : 256 * (elements + f.count) ≤ 127 * (limit + length packet) + 32512
  unfolding progress_of
  count_small =
      let q = s.paid in
      let m = s.moved in
      let w = s.within in
      let b = few rest in
      let n = s.filled_is in
      let a = s.here.at in
      let l = s.here.end in
      rw e (omega arith)
