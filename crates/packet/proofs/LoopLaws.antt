-- The check's loop: where it stands between two commands of a packet.
use Prim.Native.Nat.{ℕ, zero, suc, ◌+◌, ◌-◌, ◌*◌, ◌≤◌, ◌<◌}
use mathlib.Core.Path.{◌≡◌, refl, sym, ap, ◌∙◌}
use mathlib.Core.List.{List, [], ◌∷◌}
use mathlib.Core.Bool.{Bool, false, cond, and-false}
use native.Mathlib.Omega.{arith}
use native.Mathlib.Nat.{le_refl}
use lib.ListN.{length, take, drop, set, length-take, length-drop, length-set}
use Rattle.lbp16.specs.Answer.{Answer, rule_number}
use Rattle.lbp16.specs.declared.Rule.{Rule}
use Rattle.lbp16.specs.Space.{space_of}
use Rattle.lbp16.specs.Word.{bit}
use Rattle.lbp16.specs.Pointer.{pointers_of, lent_pointers}
use Rattle.lbp16.proofs.PointerLaws.{lent_length, back-lent, slot-below, slot-written}
use lib.Dec.{eqb}
use borrow.Author.Tests.{eq-eqb}
use Rattle.lbp16.specs.declared.pointer.Pointers.{Pointers}
use Rattle.packet.specs.Step.{unlocked, reply_bytes, answered}
use Rattle.packet.specs.Rules.{first}
use Rattle.packet.specs.Command.{limit, fields_at, kind_of, command_bytes, refusals, which_of, Finding, found, which_listed, found_listed}
use Rattle.packet.specs.Reach.{reach_from, reach_at}
use Rattle.packet.specs.Inside.{Passed, unlocked_by, ForRegisters, JudgedAt}
use Rattle.packet.specs.declared.command.Reach.{Reach}
use Rattle.packet.specs.declared.command.Which.{Which}
use Rattle.packet.specs.declared.command.Which.TheVariants.{Refused}
use Rattle.packet.specs.declared.refusal.Judged.{Judged}
use Rattle.packet.specs.Judge.{Carried, begin, carry, judge_from, judge, found_next, verdict_at, accepted, refused}
use Rattle.packet.specs.Judge
use Rattle.packet.specs.Step.{Kind}
use Rattle.packet.specs.Verdict.{answer_to}
use Rattle.packet.proofs.SliceLaws.{tail-whole}
use Rattle.packet.proofs.ElementLaws.{which-passed, bit-clear, write-kind}
use Rattle.packet.proofs.StepLaws.{unlocked-append, reply-append}
use Rattle.packet.proofs.UnlockLaws.{unlock-kept, not_status}
use Rattle.packet.proofs.CommandLaws.{passed, passes, command-some}
use Rattle.packet.proofs.ProgressLaws.{Progress, start, progress_of, progress_after, number_at, progress-is}
use Rattle.packet.proofs.JudgeLaws.{judged-end, judged-past, accepted-past}

-- The packet's verdict is that of the commands from `rest` on; what is carried there has the progress g.
pub record At (p : Pointers) (packet : List ℕ) (carried : Carried) (g : Progress) (place : ℕ) (rest : List ℕ) : Type 0 where
  pub fuel : ℕ
  pub same : judge p packet ≡ judge_from fuel carried rest
  pub enough : length rest ≤ fuel
  pub progress : g ≡ progress_of carried
  pub at : place ≡ carried.place
  pub end : place + length rest ≡ length packet

pub at-begin : (p : Pointers) (packet : List ℕ) → At p packet (begin p) (start p) 0 packet
unfolding judge begin start progress_of unlocked reply_bytes
at-begin p packet =
    record {
      fuel = length packet;
      same = refl;
      enough = le_refl _;
      progress = refl;
      at = refl;
      end = omega arith;
    }

pub at-end : {p : Pointers} {packet : List ℕ} {c : Carried} {g : Progress} {place : ℕ} (rest : List ℕ)
    → At p packet c g place rest → length rest ≡ 0 → judge p packet ≡ accepted c
at-end {c = c} [] s e = s.same ∙ judged-end s.fuel c
at-end (b ∷ bs) s e = absurd (omega arith)

pub verdict-end : {p : Pointers} {packet : List ℕ} {c : Carried} {g : Progress} {place : ℕ} (rest : List ℕ)
    → At p packet c g place rest → length rest ≡ 0
    → Answer.accepted (g.reply ∷ []) ≡ answer_to (judge p packet)
unfolding answer_to progress_of
verdict-end rest s e = rw (at-end rest s e, s.progress) refl

verdict-refused : (n : ℕ) (k : Kind) (place : ℕ) (v : Judge.Verdict) → (n ≡ 0 → ⊥) → verdict_at (which_of n place k) v ≡ refused n place
unfolding which_of
verdict-refused zero k place v h = absurd (h refl)
verdict-refused (suc n) k place v h = refl

judged-refused : (fuel : ℕ) (c : Carried) (rest : List ℕ) (n : ℕ) → length rest ≤ fuel → 0 < length rest
    → n ≡ first (refusals c.pointers (unlocked false c.steps) (reply_bytes c.steps) (fields_at rest) rest) → (n ≡ 0 → ⊥)
    → judge_from fuel c rest ≡ refused n c.place
unfolding judge_from found_next found
judged-refused fuel c [] n l some e h = absurd (omega arith)
judged-refused zero c (b ∷ bs) n l some e h = absurd (omega arith)
judged-refused (suc fuel) c (b ∷ bs) n l some e h = rw (← e) (verdict-refused n _ _ _ h)

none_first : (c : Carried) (rest : List ℕ) (end : Carried) (fuel : ℕ) → length rest ≤ fuel → 0 < length rest
    → judge_from fuel c rest ≡ accepted end
    → first (refusals c.pointers (unlocked false c.steps) (reply_bytes c.steps) (fields_at rest) rest) ≡ 0
none_first c [] end fuel l some e = absurd (omega arith)
none_first c (b ∷ bs) end zero l some e = absurd (omega arith)
none_first c (b ∷ bs) end (suc fuel) l some e = passes _ _ _ _ _ (accepted-past fuel c b bs end e).0

module _ {p : Pointers} {packet : List ℕ} {c : Carried} {g : Progress} {place : ℕ} (rest : List ℕ)
    (s : At p packet c g place rest) (some : 0 < length rest) where
  pub at-refused : (n : ℕ) → n ≡ number_at g rest → (n ≡ 0 → ⊥) → Answer.refused n place ≡ answer_to (judge p packet)
  unfolding answer_to progress_of
  at-refused n e h =
      let q = rw s.progress at e in
      rw (s.same, judged-refused s.fuel c rest n s.enough some q h, s.at) refl

  module _ (e : number_at g rest ≡ 0) where
    pub at-passed : Passed g.pointers g.unlocked g.reply (fields_at rest) rest
    at-passed = passed _ _ _ _ _ e

    pub at_next : At p packet (carry c rest) (progress_after g (fields_at rest) rest) (place + command_bytes (fields_at rest))
        (drop (command_bytes (fields_at rest)) rest)
    unfolding progress_of progress_after carry
    at_next = go s.fuel refl
      where
        go : (n : ℕ) → s.fuel ≡ n
            → At p packet (carry c rest) (progress_after g (fields_at rest) rest) (place + command_bytes (fields_at rest))
            (drop (command_bytes (fields_at rest)) rest)
        go zero q = absurd (omega (arith, s.enough))
        go (suc n) q =
            let two = command-some (fields_at rest) in
            let whole = at-passed.whole in
            let enough = s.enough in
            let end = s.end in
            record {
              fuel = n;
              same = s.same ∙ (rw q (judged-past n c rest some (rw s.progress at at-passed)));
              enough = rw length-drop (omega arith);
              progress = rw (s.progress, unlocked-append, reply-append) refl;
              at = ap (λ (x : ℕ). x + command_bytes (fields_at rest)) s.at;
              end = rw length-drop (omega arith);
            }

  -- In an accepted packet every command passes.
  pub at-accepted : (end : Carried) → judge p packet ≡ accepted end → number_at g rest ≡ 0
  unfolding progress_of
  at-accepted end e = rw s.progress (none_first c rest end s.fuel s.enough some (sym s.same ∙ e))

-- A turn of the loop: a command of k bytes is passed.
pub record Turn (p : Pointers) (packet : List ℕ) (c : Carried) (next : Progress) (place k : ℕ) (rest : List ℕ) : Type 0 where
  pub some : 2 ≤ k
  pub whole : k ≤ length rest
  pub again : At p packet (carry c rest) next (place + k) (take (length rest - k) (drop k rest))

-- as the code has it: the command's bytes by an equation
pub at-step : {p : Pointers} {packet : List ℕ} {c : Carried} {g : Progress} {place : ℕ} {rest : List ℕ}
    → At p packet c g place rest → 0 < length rest → (k : ℕ) → number_at g rest ≡ 0 → k ≡ command_bytes (fields_at rest)
    → Turn p packet c (progress_after g (fields_at rest) rest) place k rest
at-step {rest = rest} s some k z f =
    let two = command-some (fields_at rest) in
    let whole = (at-passed rest s some z).whole in
    record { some = omega arith; whole = omega arith; again = rw (f, tail-whole) (at_next rest s some z) }

-- The loop as the code has it: the pointers as eight numbers, and the place told by what is left.
pub record Checking (lent packet pointers : List ℕ) (open? : Bool) (reply : ℕ) (rest : List ℕ) : Type 0 where
  pub carried : Carried
  pub eight : length pointers ≡ 8
  pub within : reply ≤ limit
  pub left : length rest ≤ length packet
  pub here : At (pointers_of lent) packet carried (record { pointers = pointers_of pointers; unlocked = open?; reply = reply })
      (length packet - length rest)
      rest

pub checking_start : (lent packet : List ℕ) → length lent ≡ 8 → Checking lent packet lent false 0 packet
unfolding start
checking_start lent packet e =
    let z : length packet - length packet ≡ 0 = omega arith in
    record {
      carried = begin (pointers_of lent);
      eight = e;
      within = omega arith;
      left = le_refl _;
      here = rw z (at-begin (pointers_of lent) packet);
    }

-- what is found, as a refusal
which-number : (n at m place : ℕ) (k : Kind) → Answer.refused n at ≡ which_of m place k → (n ≡ m) × (m ≡ 0 → ⊥) × (at ≡ place)
unfolding which_of
which-number n at zero place k e = let z : ◌≡◌ {A = ℕ} 0 1 = cc in absurd (omega arith)
which-number n at (suc m) place k e = (cc, λ z. omega arith, cc)

-- What a turn leaves.
pub record Checked (lent packet pointers : List ℕ) (open? : Bool) (reply : ℕ) (rest : List ℕ) (r : Reach) : Type 0 where
  pub some : 2 ≤ r.bytes
  pub whole : r.bytes ≤ length rest
  pub slot : r.slot < 8
  pub answers : reply + r.answered ≤ limit
  pub again : Checking lent packet (set pointers r.slot r.next) open? (reply + r.answered)
      (take (length rest - r.bytes) (drop r.bytes rest))

module _ {lent packet pointers : List ℕ} {open? : Bool} {reply : ℕ} {rest : List ℕ}
    (s : Checking lent packet pointers open? reply rest) where
  pub checking_end : length rest ≡ 0 → Answer.accepted (reply ∷ []) ≡ answer_to (judge (pointers_of lent) packet)
  checking_end e = verdict-end rest s.here e

  module _ (some : 0 < length rest) (pass : Passed (pointers_of pointers) open? reply (fields_at rest) rest) (r : Reach)
      (e : r ≡ reach_at (pointers_of pointers) (fields_at rest) rest) where
    abbrev g : Progress
    g = record { pointers = pointers_of pointers; unlocked = open?; reply = reply }

    none : number_at g rest ≡ 0
    none = passes _ _ _ _ _ pass

    next : (o : Bool) → o ≡ unlocked_by open? (fields_at rest) r.used rest
        → progress_after g (fields_at rest) rest
        ≡ record { pointers = pointers_of (set pointers r.slot r.next); unlocked = o; reply = reply + r.answered }
    unfolding reach_from
    next o h =
        sym (progress-is g (fields_at rest) rest pass r.used r.answered _ o (ap (λ (t : Reach). t.used) e)
        (rw
        (ap (λ (t : Reach). t.slot) e, ap (λ (t : Reach). t.next) e, ap (λ (t : Reach). t.used) e)
        (slot-written pointers s.eight _ _ _ pass.present))
        h
        (ap (λ (t : Reach). t.answered) e))

    next-checked : (o : Bool) → o ≡ unlocked_by open? (fields_at rest) r.used rest → Checked lent packet pointers o reply rest r
    unfolding reach_from
    next-checked o h =
        let k : r.bytes ≡ command_bytes (fields_at rest) = ap (λ (t : Reach). t.bytes) e in
        let a : r.answered ≡ (fields_at rest).count * answered (kind_of (fields_at rest)) (space_of (fields_at rest).space) =
        ap (λ (t : Reach). t.answered) e in
        let two = command-some (fields_at rest) in
        let whole = pass.whole in
        let answers = pass.answers in
        let l = s.left in
        let turn = at-step s.here some r.bytes none k in
        let fewer : length (take (length rest - r.bytes) (drop r.bytes rest)) ≡ length rest - r.bytes = rw (length-take, length-drop) (omega arith) in
        let place : length packet - length (take (length rest - r.bytes) (drop r.bytes rest)) ≡ length packet - length rest + r.bytes = omega arith in
        record {
          some = omega arith;
          whole = omega arith;
          slot = rw (ap (λ (t : Reach). t.slot) e) (slot-below _ _ pass.present);
          answers = omega arith;
          again = record {
            carried = carry s.carried rest;
            eight = length-set pointers r.slot r.next ∙ s.eight;
            within = omega arith;
            left = omega arith;
            here = rw (place, ← next o h) turn.again;
          };
        }

  -- what is found at the command, and its reach
  module _ (some : 0 < length rest) (j : Judged)
      (q : JudgedAt (pointers_of pointers) open? reply (length packet - length rest) rest j) where
    fields-found : j.found.fields ≡ fields_at rest
    unfolding found found_listed
    fields-found = ap (λ (y : Finding). y.fields) q.found

    number : ℕ
    number = first (refusals (pointers_of pointers) open? reply (fields_at rest) rest)

    which-found : which_listed j.found.which j.found.place ≡ which_of number (length packet - length rest) (kind_of (fields_at rest))
    unfolding found found_listed number
    which-found = ap (λ (y : Finding). y.which) q.found

    -- A refusal is the packet's, at the place that is found.
    pub checking_refused : (r : Rule) → j.found.which ≡ Refused r
        → Answer.refused (rule_number r) j.found.place ≡ answer_to (judge (pointers_of lent) packet)
    unfolding which_listed number
    checking_refused r w =
        let e = which-number (rule_number r) _ _ _ _ (sym (ap (λ (x : Which). which_listed x j.found.place) w) ∙ which-found) in
        rw e.2 (at-refused rest s.here some (rule_number r) e.0 (λ z. e.1 (sym e.0 ∙ z)))

    -- A read or a write, by its write bit.
    module _ (b : ℕ) (is : which_listed j.found.which j.found.place ≡ Answer.accepted (b ∷ [])) where
      bit_found : (number ≡ 0) × (b ≡ bit j.found.fields.write)
      bit_found = let e = which-passed _ _ _ _ (sym is ∙ which-found) in (e.0, rw fields-found (e.1 ∙ ap bit (write-kind (fields_at rest))))

      pub checking_passed : Passed (pointers_of pointers) open? reply j.found.fields rest
      unfolding number
      checking_passed = rw fields-found (passed _ _ _ _ _ bit_found.0)

      pub checking_next : (o : Bool) → o ≡ unlocked_by open? j.found.fields j.reach.used rest
          → Checked lent packet pointers o reply rest j.reach
      checking_next o h =
          let pass = rw fields-found at checking_passed in
          next-checked some pass j.reach (q.reach (passes _ _ _ _ _ pass)) o (rw fields-found at h)

      -- A plain command to space 0 does not turn the unlock.
      pub checking_registers : ForRegisters (fields_at rest) → Checked lent packet pointers open? reply rest j.reach
      checking_registers r =
          checking_next open? (sym (unlock-kept _ _ _ _ _ _ _ (not_status _ (rw (fields-found, r.space) (and-false (fields_at rest).write)))))

    -- Nor does a read.
    pub checking_read : which_listed j.found.which j.found.place ≡ Answer.accepted (0 ∷ []) → (o : Bool) → o ≡ open?
        → Checked lent packet pointers o reply rest j.reach
    checking_read is o e =
        let w : j.found.fields.write ≡ false = bit-clear _ (bit_found 0 is).1 in
        checking_next 0 is o (e ∙ sym (unlock-kept _ _ _ _ _ _ _ (not_status _ (rw w refl))))

-- pointers by value, judged as their list
pub judge-listed : (p : Pointers) (packet lent : List ℕ) (a : Answer) → lent ≡ lent_pointers p
    → a ≡ answer_to (cond (eqb (length lent) 8) (judge (pointers_of lent) packet) (refused 1 0)) → a ≡ answer_to (judge p packet)
judge-listed p packet lent a e h = h ∙ rw (e, eq-eqb _ _ (lent_length p), back-lent p) refl
