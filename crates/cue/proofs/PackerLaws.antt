-- The packing rule on a summary of the open packet does what the rule does on the packet itself.
use Prim.Native.Nat.{ℕ, ◌+◌, ◌*◌, ◌≤◌, ◌<◌}
use mathlib.Core.Path.{◌≡◌, refl, sym, ap, ◌∙◌}
use mathlib.Core.List.{List, [], ◌∷◌, ◌++◌, append_assoc, append-nil}
use mathlib.Core.Bool.{Bool, beq, true, false, not, ◌||◌, ◌&&◌, cond, and-false, and-true as and-all}
use native.Mathlib.Omega.{arith}
use lib.Dec.{eqb, ltb, leb}
use lib.ListN.{length, length-append}
use borrow.Author.Tests.{eqb-true, ltb-true, leb-true, lt-leb}
use Rattle.lbp16.specs.Space.{Space, space_of, space_number, is_absent, row}
use Rattle.lbp16.proofs.BoolLaws.{or_false, and_true}
use Rattle.packet.specs.Step.{Kind, Step, is_info, carried, answered, is_write, is_status, names_unlock, reply_bytes, unlocked_after, unlocked}
use Rattle.packet.specs.Bytes.{number}
use Rattle.packet.specs.Rules.{misaligned, past_end, barred}
use Rattle.packet.specs.Command.{limit, pick_kind}
use Rattle.packet.proofs.StepLaws.{unlocked-append, reply-append, carried_le, answered_le, pick-again}
use Rattle.cue.specs.Records.{reserved, bad_element, brief}
use Rattle.cue.specs.Packing.{Command, join_all, bytes_of_packet, element_steps, command_steps, packet_steps}
use Rattle.cue.specs.Packing.{unlock_command, keeps_limits, Open, commands_of, same_kind, joined, joins, needs_unlock}
use Rattle.cue.specs.Packing.{started, turn_by, turn}
use Rattle.cue.specs.Output.{output_of}
use Rattle.cue.specs.Inside.{Roomy}
use Rattle.cue.specs.Summary.{carried_by, answered_by, Progress, none, some, summary, agrees, fits}
use Rattle.cue.specs.Compile.{bytes_of_output}
use Rattle.cue.specs.Summary.{joined_with, joined_by, unlock_for, started_with, started_by, closed_by, turned_by}
use Rattle.lbp16.specs.declared.space.Row.{Row}
use Rattle.cue.specs.declared.records.Record.{Record}
use Rattle.cue.specs.declared.packer.Packer.{Packer}
use Rattle.cue.proofs.PacketLaws.{packet-bytes_append, packet-steps_append, command-length}
use Rattle.cue.proofs.PackingLaws.{joining, joined-steps, last-steps, same_kind_lem, space-again, unlock-reply}
use Rattle.cue.proofs.OutputLaws.{joined_bytes, framed-bytes}

-- one record more, and the packets if the list ends here
unfoldable pub advance : Progress → Step → Progress
advance none x = some [] (started [] x)
advance (some css o) x = some (css ++ (turn o x).closed) (turn o x).open?

unfoldable pub finished : Progress → List (List Command)
finished none = []
finished (some css o) = css ++ (commands_of o ∷ [])

-- the packer's turn, by the tests that lead to it
module _ (p : Packer) (r : Record) where
  pub turn-joined : (q : Packer) (a f : Bool) → q ≡ joined_by p r → a ≡ agrees p r → f ≡ fits q → (a && f) ≡ true
      → q ≡ turned_by p r
  unfolding turned_by
  turn-joined q a f e g h t =
      let z : (agrees p r && fits (joined_by p r)) ≡ true = rw (← e, ← g, ← h) t in
      rw z e

  pub turn-started : (q j : Packer) (a f : Bool) → j ≡ joined_by p r → a ≡ agrees p r → f ≡ fits j → (a && f) ≡ false
      → q ≡ started_by p r → fits q ≡ true → q ≡ turned_by p r
  unfolding turned_by
  turn-started q j a f e g h t d k =
      let z : (agrees p r && fits (joined_by p r)) ≡ false = rw (← e, ← g, ← h) t in
      let y : fits (started_by p r) ≡ true = rw (← d) k in
      rw (z, y) d

  pub turn-closed : (q s j : Packer) (a f : Bool) → j ≡ joined_by p r → a ≡ agrees p r → f ≡ fits j → (a && f) ≡ false
      → s ≡ started_by p r → fits s ≡ false → q ≡ started_by (closed_by p) r → q ≡ turned_by p r
  unfolding turned_by
  turn-closed q s j a f e g h t d k l =
      let z : (agrees p r && fits (joined_by p r)) ≡ false = rw (← e, ← g, ← h) t in
      let y : fits (started_by p r) ≡ false = rw (← d) k in
      rw (z, y) l

  -- where both name one space, the record's element is the last command's
  pub agrees_at : (e : ℕ) → e ≡ (row (space_of r.space)).element
      → (beq p.write r.write && eqb p.space r.space && eqb r.address (p.address + p.count * e)
      && ltb p.count 127)
      ≡ agrees p r
  unfolding agrees
  agrees_at e h =
      ap (λ (n : ℕ). both && eqb r.address (p.address + p.count * n) && ltb p.count 127) h
      ∙ go (beq p.write r.write) (eqb p.space r.space) refl
    where
      both : Bool
      both = beq p.write r.write && eqb p.space r.space

      next : ℕ → Bool
      next n = eqb r.address (p.address + p.count * (row (space_of n)).element)

      go : (b s : Bool) → eqb p.space r.space ≡ s
          → (b && s && next r.space && ltb p.count 127) ≡ (b && s && next p.space && ltb p.count 127)
      go true true d = ap (λ (n : ℕ). next n && ltb p.count 127) (sym (eqb-true _ _ d))
      go true false d = refl
      go false s d = refl

-- the bytes of a record's element, by its kind
pub carried-counted : (r : Record) → cond r.write (row (space_of r.space)).element 0 ≡ carried_by r
unfolding carried_by carried
carried-counted r = go r.write
  where
    go : (w : Bool) → cond w (row (space_of r.space)).element 0 ≡ carried (pick_kind w) (space_of r.space)
    go true = refl
    go false = refl

pub answered-counted : (r : Record) → cond (not r.write) (row (space_of r.space)).element 0 ≡ answered_by r
unfolding answered_by answered
answered-counted r = go r.write
  where
    go : (w : Bool) → cond (not w) (row (space_of r.space)).element 0 ≡ answered (pick_kind w) (space_of r.space)
    go true = refl
    go false = refl

-- a record's element as the packer is told of it
pub record Sized (p : Packer) (r : Record) (line : Row) (bytes answer : ℕ) : Type 0 where
  pub roomy : Roomy p
  pub listed : line ≡ row (space_of r.space)
  pub carried : bytes ≡ carried_by r
  pub answered : answer ≡ answered_by r
  pub small : bytes ≤ 4
  pub short : answer ≤ 4

module _ {p : Packer} {r : Record} {line : Row} {bytes answer : ℕ} where
  pub sized : Roomy p → line ≡ row (space_of r.space) → bytes ≡ cond r.write line.element 0
      → answer ≡ cond (not r.write) line.element 0 → Sized p r line bytes answer
  unfolding carried_by answered_by
  sized g l b a =
      let c : bytes ≡ carried_by r = b ∙ ap (λ (s : Row). cond r.write s.element 0) l ∙ carried-counted r in
      let d : answer ≡ answered_by r = a ∙ ap (λ (s : Row). cond (not r.write) s.element 0) l ∙ answered-counted r in
      record {
        roomy = g;
        listed = l;
        carried = c;
        answered = d;
        small = rw c (carried_le _ _);
        short = rw d (answered_le _ _);
      }

  module _ (z : Sized p r line bytes answer) where
    pub joined_is : (q : Packer) → q ≡ joined_with p bytes answer → q ≡ joined_by p r
    unfolding joined_by
    joined_is q e = rw (← z.carried, ← z.answered) e

    pub started-is : (q : Packer) → q ≡ started_with p r bytes answer (r.write && line.locked && not p.unlocked)
        → q ≡ started_by p r
    unfolding started_by unlock_for
    started-is q e = rw (← z.carried, ← z.answered, ← z.listed) e

    pub opened-is : (q s : Packer) → s ≡ closed_by p → q ≡ started_with s r bytes answer (r.write && line.locked)
        → q ≡ started_by (closed_by p) r
    unfolding started_by unlock_for closed_by
    opened-is q s d e =
        rw (← z.carried, ← z.answered, ← z.listed, and-all (r.write && line.locked))
        (e ∙ ap (λ (x : Packer). started_with x r bytes answer (r.write && line.locked)) d)

-- a record's bytes by its summary
pub carried-brief : (x : Step) → is_info x.kind ≡ false → carried_by (brief x) ≡ carried x.kind x.space
unfolding carried_by brief
carried-brief x p = rw (pick-again _ p, space-again) refl

pub answered-brief : (x : Step) → is_info x.kind ≡ false → answered_by (brief x) ≡ answered x.kind x.space
unfolding answered_by brief
answered-brief x p = rw (pick-again _ p, space-again) refl

-- one element more adds one element to the reply
reply-element : (k : Kind) (s : Space) (a d : ℕ) (es : List (List ℕ)) (e : List ℕ)
    → reply_bytes (element_steps k s a d (es ++ (e ∷ []))) ≡ reply_bytes (element_steps k s a d es) + answered k s
unfolding element_steps reply_bytes
reply-element k s a d [] e = omega arith
reply-element k s a d (b ∷ es) e = rw (reply-element k s (a + d) d es e) (omega arith)

reply-joined : (o : Open) (x : Step)
    → reply_bytes (packet_steps (commands_of (joined o x)))
    ≡ reply_bytes (packet_steps (commands_of o)) + answered o.last.kind o.last.space
unfolding commands_of joined command_steps
reply-joined o x = rw (last-steps, reply-append, reply-element, last-steps, reply-append) (omega arith)

-- what is known of a good record
pub record Fine (x : Step) : Type 0 where
  pub good : bad_element x ≡ false
  pub plain : is_info x.kind ≡ false
  pub wide : length x.bytes ≡ carried x.kind x.space

not_unlock : (x : Step) → bad_element x ≡ false → names_unlock x ≡ false
unfolding bad_element reserved names_unlock
not_unlock x e =
    let h =
    (or_false (is_absent x.space || misaligned (row x.space) x.address || past_end x || barred x) (reserved x) e).1 in
    go (eqb x.address 0x1A) (eqb x.address 0x0A) (is_status x.space) h
  where
    go : (a b s : Bool) → ((a || b) && s) ≡ false → (a && s) ≡ false
    go true b s h = h
    go false b s h = refl

stays : (b : Bool) (x : Step) → names_unlock x ≡ false → unlocked_after b x ≡ b
unfolding unlocked_after
stays b x e = go (is_write x.kind) (names_unlock x) e
  where
    go : (w n : Bool) → n ≡ false
        → cond (w && n) (eqb (number x.bytes) 0x5A02) b ≡ b
    go true n h = rw h refl
    go false n h = refl

-- (a): the same test, and the same packet
module _ (css : List (List Command)) (o : Open) (u : Bool) (x : Step) (f : Fine x) (plain : is_info o.last.kind ≡ false) where
  -- whether the last command and the record agree, by the definition
  agree : Bool
  agree =
      let c = o.last in
      same_kind c.kind x.kind && eqb (space_number c.space) (space_number x.space)
      && eqb x.address (c.address + length c.elements * (row c.space).element)
      && ltb (length c.elements) 127

  agree_same : agrees (summary (some css o) u) (brief x) ≡ agree
  unfolding agree agrees summary brief same_kind
  agree_same = rw space-again refl

  -- where they agree, they have the same kind and space
  agree-answered : agree ≡ true → answered o.last.kind o.last.space ≡ answered x.kind x.space
  unfolding agree
  agree-answered e =
      let c = o.last in
      let k = same_kind c.kind x.kind in
      let s = eqb (space_number c.space) (space_number x.space) in
      let a = eqb x.address (c.address + length c.elements * (row c.space).element) in
      let q = and_true (k && s && a) (ltb (length c.elements) 127) e in
      let r = and_true (k && s) a q.0 in
      let t = and_true k s r.0 in
      let number : space_number c.space ≡ space_number x.space = eqb-true _ _ t.1 in
      let space : c.space ≡ x.space = sym (space-again c.space) ∙ ap space_of number ∙ space-again x.space in
      rw (same_kind_lem _ _ plain f.plain t.0, space) refl

  joined-fits : agree ≡ true
      → keeps_limits (commands_of (joined o x)) ≡ fits (joined_by (summary (some css o) u) (brief x))
  unfolding keeps_limits fits joined_by summary
  joined-fits e =
      rw (joined_bytes, reply-joined, agree-answered e, f.wide, carried-brief x f.plain, answered-brief x f.plain) refl

  joins-same : joins o x ≡ (agrees (summary (some css o) u) (brief x) && fits (joined_by (summary (some css o) u) (brief x)))
  unfolding joins agree
  joins-same = rw agree_same (go agree refl)
    where
      go : (b : Bool) → agree ≡ b
          → (b && keeps_limits (commands_of (joined o x))) ≡ (b && fits (joined_by (summary (some css o) u) (brief x)))
      go true e = joined-fits e
      go false e = refl

  -- the joined record is the packet's next step
  joined-packet : joins o x ≡ true → o.last.increment ≡ true
      → packet_steps (commands_of (joined o x)) ≡ packet_steps (commands_of o) ++ (x ∷ [])
  unfolding commands_of joined
  joined-packet j i =
      rw (last-steps, last-steps, joined-steps o x (joining o x plain f.plain j) i, append_assoc) refl

  pub joined-summary : joins o x ≡ true → o.last.increment ≡ true
      → joined_by (summary (some css o) u) (brief x) ≡ summary (some css (joined o x)) false
  unfolding joined_by summary joined reply_bytes unlocked
  joined-summary j i =
      let o₂ = joined o x in
      let steps = joined-packet j i in
      let count : length o.last.elements + 1 ≡ length o₂.last.elements = rw length-append refl in
      let bytes : length (bytes_of_packet (commands_of o)) + carried_by (brief x) ≡ length (bytes_of_packet (commands_of o₂)) =
      rw (carried-brief x f.plain, joined_bytes o x, f.wide) refl in
      let reply : reply_bytes (packet_steps (commands_of o)) + answered_by (brief x) ≡ reply_bytes (packet_steps (commands_of o₂)) =
      rw (answered-brief x f.plain, steps, reply-append) (omega arith) in
      let open? : unlocked false (packet_steps (commands_of o)) ≡ unlocked false (packet_steps (commands_of o₂)) =
      rw (steps, unlocked-append, stays _ x (not_unlock x f.good)) refl in
      let end : length (bytes_of_output css) + 4 + length (bytes_of_packet (commands_of o)) + carried_by (brief x)
      ≡ length (bytes_of_output css) + 4 + length (bytes_of_packet (commands_of o₂)) =
      omega arith in
      λ k.
      record {
        write = is_write o.last.kind;
        space = space_number o.last.space;
        address = o.last.address;
        count = count k;
        packet = bytes k;
        reply = reply k;
        unlocked = open? k;
        unlock = false;
        frame = length (bytes_of_output css);
        word = length (bytes_of_output css) + 4 + length (bytes_of_packet o.before);
        end = end k;
        packets = length css + 1;
      }

-- (b): the new command, where needed behind the unlock
module _ (cs : List Command) (x : Step) (f : Fine x) where
  pub unlock-length : (need : Bool) → length (bytes_of_packet (cond need (unlock_command ∷ []) [])) ≡ cond need 6 0
  unfolding bytes_of_packet unlock_command join_all
  unlock-length true = simp (length-append, command-length) refl
  unlock-length false = refl

  pub started-before : length (bytes_of_packet (started cs x).before) ≡ length (bytes_of_packet cs) + cond (needs_unlock cs x) 6 0
  unfolding started
  started-before = rw (packet-bytes_append, length-append, unlock-length) refl

  pub started-length : length (bytes_of_packet (commands_of (started cs x)))
      ≡ length (bytes_of_packet cs) + cond (needs_unlock cs x) 6 0 + 4 + length x.bytes
  unfolding commands_of started bytes_of_packet join_all
  started-length =
      let u = unlock-length (needs_unlock cs x) in
      simp (packet-bytes_append, length-append, command-length) (omega arith)

  started-packet : packet_steps (commands_of (started cs x))
      ≡ packet_steps cs ++ packet_steps (cond (needs_unlock cs x) (unlock_command ∷ []) []) ++ (x ∷ [])
  unfolding commands_of started command_steps element_steps
  started-packet = rw (last-steps, packet-steps_append) refl

  started-reply : reply_bytes (packet_steps (commands_of (started cs x)))
      ≡ reply_bytes (packet_steps cs) + answered x.kind x.space
  unfolding reply_bytes
  started-reply = rw (started-packet, reply-append, reply-append, unlock-reply) (omega arith)

  -- the unlock is open after its command
  opened : (b need : Bool) → unlocked b (packet_steps (cond need (unlock_command ∷ []) [])) ≡ (b || need)
  unfolding unlocked packet_steps command_steps element_steps unlock_command unlocked_after names_unlock is_status is_write number
  opened true true = refl
  opened true false = refl
  opened false true = refl
  opened false false = refl

  started-unlocked : unlocked false (packet_steps (commands_of (started cs x)))
      ≡ (unlocked false (packet_steps cs) || needs_unlock cs x)
  unfolding unlocked
  started-unlocked =
      rw (started-packet, unlocked-append, unlocked-append, opened) (stays _ x (not_unlock x f.good))

  -- the packer knows an open packet of these commands
  pub record Knows (p : Packer) (css : List (List Command)) : Type 0 where
    pub packet : p.packet ≡ length (bytes_of_packet cs)
    pub reply : p.reply ≡ reply_bytes (packet_steps cs)
    pub unlocked : p.unlocked ≡ unlocked false (packet_steps cs)
    pub frame : p.frame ≡ length (bytes_of_output css)
    pub end : p.end ≡ length (bytes_of_output css) + 4 + length (bytes_of_packet cs)
    pub packets : p.packets ≡ length css + 1

  module _ (p : Packer) (css : List (List Command)) (n : Knows p css) where
    unlock-same : unlock_for p (brief x) ≡ needs_unlock cs x
    unfolding unlock_for brief needs_unlock
    unlock-same = rw (space-again, n.unlocked) refl

    pub started-summary : started_by p (brief x) ≡ summary (some css (started cs x)) (needs_unlock cs x)
    unfolding started_by summary started brief
    started-summary =
        let o = started cs x in
        let need = unlock-same in
        let u : ◌≡◌ {A = ℕ} (cond (unlock_for p (brief x)) 6 0) (cond (needs_unlock cs x) 6 0) = rw need refl in
        let more : carried_by (brief x) ≡ length x.bytes = rw (carried-brief x f.plain, f.wide) refl in
        let bytes : p.packet + cond (unlock_for p (brief x)) 6 0 + 4 + carried_by (brief x) ≡ length (bytes_of_packet (commands_of o)) =
        rw (started-length, u, more, n.packet) refl in
        let reply : p.reply + answered_by (brief x) ≡ reply_bytes (packet_steps (commands_of o)) =
        rw (started-reply, answered-brief x f.plain, n.reply) refl in
        let open? : (p.unlocked || unlock_for p (brief x)) ≡ unlocked false (packet_steps (commands_of o)) =
        rw (started-unlocked, need, n.unlocked) refl in
        let word : p.end + cond (unlock_for p (brief x)) 6 0 ≡ length (bytes_of_output css) + 4 + length (bytes_of_packet o.before) =
        rw (started-before, u, n.end) (omega arith) in
        let end : p.end + cond (unlock_for p (brief x)) 6 0 + 4 + carried_by (brief x)
        ≡ length (bytes_of_output css) + 4 + length (bytes_of_packet (commands_of o)) =
        rw (started-length, u, more, n.end) (omega arith) in
        λ k.
        record {
          write = is_write x.kind;
          space = space_number x.space;
          address = x.address;
          count = 1;
          packet = bytes k;
          reply = reply k;
          unlocked = open? k;
          unlock = need k;
          frame = n.frame k;
          word = word k;
          end = end k;
          packets = n.packets k;
        }

-- What the packer knows of the open packet, and of the empty one behind it.
pub knows_open : (css : List (List Command)) (o : Open) (u : Bool) (x : Step) (f : Fine x)
    → Knows (commands_of o) x f (summary (some css o) u) css
unfolding summary
knows_open css o u x f = record { packet = refl; reply = refl; unlocked = refl; frame = refl; end = refl; packets = refl }

-- the output of packets after others
pub output-append : (css dss : List (List Command)) → bytes_of_output (css ++ dss) ≡ bytes_of_output css ++ bytes_of_output dss
unfolding bytes_of_output output_of
output-append [] dss = refl
output-append (cs ∷ css) dss = rw (output-append css dss, append_assoc) refl

-- a closed packet's bytes with its frame
pub output-one : (cs : List Command) → length (bytes_of_output (cs ∷ [])) ≡ 4 + length (bytes_of_packet cs)
unfolding bytes_of_output output_of
output-one cs = framed-bytes (bytes_of_packet cs) [] ∙ omega arith

pub knows-closed : (css : List (List Command)) (o : Open) (u : Bool) (x : Step) (f : Fine x)
    → Knows [] x f (closed_by (summary (some css o) u)) (css ++ (commands_of o ∷ []))
unfolding summary closed_by bytes_of_packet packet_steps reply_bytes unlocked
knows-closed css o u x f =
    let out : length (bytes_of_output (css ++ (commands_of o ∷ []))) ≡ length (bytes_of_output css) + 4 + length (bytes_of_packet (commands_of o)) =
    rw (output-append, length-append, output-one) (omega arith) in
    record {
      packet = refl;
      reply = refl;
      unlocked = refl;
      frame = sym out;
      end = rw out (omega arith);
      packets = rw length-append (omega arith);
    }

pub knows-none : (u : Bool) (x : Step) (f : Fine x) → Knows [] x f (closed_by (summary none u)) []
unfolding summary closed_by bytes_of_packet packet_steps reply_bytes unlocked bytes_of_output output_of
knows-none u x f = record { packet = refl; reply = refl; unlocked = refl; frame = refl; end = refl; packets = refl }

-- before the first record nothing fits
pub none-turned : (u : Bool) (x : Step) → turned_by (summary none u) (brief x) ≡ started_by (closed_by (summary none u)) (brief x)
unfolding turned_by agrees fits started_by summary joined_by closed_by
none-turned u x =
    let b = brief x in
    let a : agrees (summary none u) b ≡ false =
    and-false (beq false b.write && eqb 0 b.space && eqb b.address (0 + 127 * (row (space_of 0)).element)) in
    let n : fits (started_by (summary none u) b) ≡ false =
    rw (lt-leb (limit + 1 + cond (unlock_for (summary none u) b) 6 0 + 4 + carried_by b) limit (omega arith)) refl in
    rw (a, n) refl

-- (b) has the same limits
started-fits : (css : List (List Command)) (o : Open) (u : Bool) (x : Step) (f : Fine x)
    → fits (started_by (summary (some css o) u) (brief x)) ≡ keeps_limits (commands_of (started (commands_of o) x))
unfolding fits summary keeps_limits
started-fits css o u x f =
    ap fits (started-summary (commands_of o) x f (summary (some css o) u) css (knows_open css o u x f))

-- What holds of a turn by (a), by (b) and by (c) holds of every turn of packer and packets.
pub turned-cases : (css : List (List Command)) (o : Open) (u : Bool) (x : Step) (f : Fine x) → is_info o.last.kind ≡ false
    → (P : Packer → Progress → Type 0)
    → (joins o x ≡ true → P (joined_by (summary (some css o) u) (brief x)) (some css (joined o x)))
    → P (started_by (summary (some css o) u) (brief x)) (some css (started (commands_of o) x))
    → P (started_by (closed_by (summary (some css o) u)) (brief x)) (some (css ++ (commands_of o ∷ [])) (started [] x))
    → P (turned_by (summary (some css o) u) (brief x)) (advance (some css o) x)
unfolding turned_by advance turn turn_by
turned-cases css o u x f plain P a b c =
    rw (← joins-same css o u x f plain, fits-same) (go (joins o x) (keeps_limits (commands_of (started (commands_of o) x))) refl)
  where
    q : Packer
    q = summary (some css o) u

    fits-same : fits (started_by q (brief x)) ≡ keeps_limits (commands_of (started (commands_of o) x))
    fits-same = started-fits css o u x f

    go : (j l : Bool) → joins o x ≡ j
        → P (cond j (joined_by q (brief x)) (cond l (started_by q (brief x)) (started_by (closed_by q) (brief x))))
        (some (css ++ (turn_by j l o x).closed) (turn_by j l o x).open?)
    go true l e = rw append-nil (a e)
    go false true e = rw append-nil b
    go false false e = c

-- the open packet's last command has its increment bit, and is no info read
abbrev pub Rising : Progress → Type 0
Rising none = Unit
Rising (some css o) = (o.last.increment ≡ true) × (is_info o.last.kind ≡ false)

-- The packer keeps these packets' summary.
pub record Following (s : Progress) (p : Packer) : Type 0 where
  pub unlock : Bool
  pub packer : p ≡ summary s unlock
  pub rising : Rising s

-- The packer's turn is the rule's.
pub next : (s : Progress) (u : Bool) (x : Step) → Fine x → Rising s
    → Following (advance s x) (turned_by (summary s u) (brief x))
unfolding advance started joined
next none u x f h =
    record {
      unlock = needs_unlock [] x;
      packer = none-turned u x ∙ started-summary [] x f _ [] (knows-none u x f);
      rising = (refl, f.plain);
    }
next (some css o) u x f h =
    turned-cases css o u x f h.1 (λ q t. Following t q)
    (λ j. record { unlock = false; packer = joined-summary css o u x f h.1 j h.0; rising = h })
    (record {
      unlock = needs_unlock (commands_of o) x;
      packer = started-summary (commands_of o) x f _ css (knows_open css o u x f);
      rising = (refl, f.plain);
    })
    (record {
      unlock = needs_unlock [] x;
      packer = started-summary [] x f _ _ (knows-closed css o u x f);
      rising = (refl, f.plain);
    })

-- The packer's sums stay small.
pub record Grown (p q : Packer) : Type 0 where
  pub count : q.count ≤ 127
  pub packet : q.packet ≤ limit
  pub reply : q.reply ≤ limit
  pub end : q.end ≤ p.end + 18
  pub packets : q.packets ≤ p.packets + 1
  pub unlock : q.unlock ≡ true → 6 ≤ q.word

module _ (p : Packer) (r : Record) where
  kept : (q : Packer) → fits q ≡ true → (q.packet ≤ limit) × (q.reply ≤ limit)
  unfolding fits
  kept q e =
      let t = and_true (leb q.packet limit) (leb q.reply limit) e in
      (leb-true _ _ t.0, leb-true _ _ t.1)

  few : agrees p r ≡ true → p.count < 127
  unfolding agrees
  few e =
      ltb-true _ _
      (and_true
      (beq p.write r.write && eqb p.space r.space
      && eqb r.address (p.address + p.count * (row (space_of p.space)).element))
      (ltb p.count 127)
      e).1

  more : (carried_by r ≤ 4) × (answered_by r ≤ 4)
  unfolding carried_by answered_by
  more = (carried_le _ _, answered_le _ _)

  unlock_le : (b : Bool) → cond b 6 0 ≤ 6
  unlock_le true = omega arith
  unlock_le false = omega arith

  unlock-behind : (n : ℕ) (b : Bool) → b ≡ true → 6 ≤ n + cond b 6 0
  unlock-behind n b e = rw e (omega arith)

  grown-joined : agrees p r ≡ true → fits (joined_by p r) ≡ true → Grown p (joined_by p r)
  unfolding joined_by
  grown-joined e g =
      let k = kept (joined_by p r) g in
      let n = few e in
      let m = more in
      record {
        count = omega arith;
        packet = k.0;
        reply = k.1;
        end = omega arith;
        packets = omega arith;
        unlock = λ t. let z : ◌≡◌ {A = ℕ} 0 1 = cc in absurd (omega arith);
      }

  grown-started : fits (started_by p r) ≡ true → Grown p (started_by p r)
  unfolding started_by
  grown-started g =
      let k = kept (started_by p r) g in
      let m = more in
      let u = unlock_le (unlock_for p r) in
      record {
        count = omega arith;
        packet = k.0;
        reply = k.1;
        end = omega arith;
        packets = omega arith;
        unlock = unlock-behind p.end (unlock_for p r);
      }

  grown-closed : Grown p (started_by (closed_by p) r)
  unfolding started_by closed_by
  grown-closed =
      let m = more in
      let u = unlock_le (unlock_for (closed_by p) r) in
      record {
        count = omega arith;
        packet = omega arith;
        reply = omega arith;
        end = omega arith;
        packets = omega arith;
        unlock = unlock-behind (p.end + 4) (unlock_for (closed_by p) r);
      }

  pub grown : Grown p (turned_by p r)
  unfolding turned_by
  grown = go (agrees p r) (fits (joined_by p r)) (fits (started_by p r)) refl refl refl
    where
      go : (a f s : Bool) → agrees p r ≡ a → fits (joined_by p r) ≡ f → fits (started_by p r) ≡ s
          → Grown p (cond (a && f) (joined_by p r) (cond s (started_by p r) (started_by (closed_by p) r)))
      go true true s e g h = grown-joined e g
      go true false true e g h = grown-started h
      go true false false e g h = grown-closed
      go false f true e g h = grown-started h
      go false f false e g h = grown-closed
