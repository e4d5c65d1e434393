-- How far the packing rule's calls have come in a list, and that every call goes on from there.
use Prim.Native.Nat.{ℕ, zero, suc, ◌+◌, ◌≤◌, ◌<◌}
use mathlib.Core.Path.{◌≡◌, refl, sym, ap, ◌∙◌, subst}
use mathlib.Core.List.{List, [], ◌∷◌, ◌++◌, append-nil}
use mathlib.Core.Bool.{Bool, true, false, ◌&&◌, cond}
use native.Mathlib.Omega.{arith}
use lib.Dec.{eqb, ltb}
use lib.ListN.{length, drop, length-append, drop_of_length-le}
use lib.Seq.{append_snoc, drop_at}
use borrow.Author.Tests.{eqb-true, ltb-true, ltb-false}
use Rattle.lbp16.proofs.BoolLaws.{and_true}
use Rattle.lbp16.proofs.ListLaws.{none_left}
use Rattle.packet.specs.Step.{Step}
use Rattle.packet.specs.Rules.{first}
use Rattle.cue.specs.Records.{records, refused, records_of, records_from, record_kind, record_bytes, record_step, record_refusals}
use Rattle.cue.specs.Packing.{Command, packets}
use Rattle.cue.specs.Output.{output_of}
use Rattle.cue.specs.Compile.{bytes_of_output}
use Rattle.cue.proofs.OwnBytesLaws.{same_kind_lem, same_step_lem}
use Rattle.cue.proofs.PackingLaws.{record_bytes_le}
use Rattle.cue.proofs.WalkLaws.{records-next, records-end}
use Rattle.cue.proofs.PackerLaws.{output-append}
use Rattle.parts.specs.Taking.{State, Standing, going, ended, faulted, Taken, Stopped, decided_at, byte_taken, record_taken, faulted_by}
use Rattle.parts.specs.Taking.{is_going, goes_on, one_more, bytes_taken, end_taken, part_taken, called, fresh}
use Rattle.parts.specs.Rule.{Opened, none, closes, opens, last_of, packing_rule, closed_from, good_from, good_records}
use Rattle.parts.proofs.FrontLaws.{Waiting, reaches, decided-number, decided-whole, cut-number}
use Rattle.parts.proofs.ListLaws.{with_records, with_snoc, with_refused, with_records_lem, closed_snoc, open_snoc, packets_are}
use Rattle.parts.proofs.ListLaws.{open_after, good-next, records-refused, good-refused}

-- The records `xs` are wholly taken and `left` is what follows the collected bytes; `css` are the packets handed out.
pub record Before (list left : List ℕ) (s : State Opened) (css : List (List Command)) : Type 0 where
  pub xs : List Step
  pub fuel : ℕ
  pub enough : length (s.collected ++ left) ≤ fuel
  pub listed : records_of list ≡ with_records xs (records_from fuel s.index (s.collected ++ left))
  pub good : good_records list ≡ xs ++ good_from fuel s.index (s.collected ++ left)
  pub waiting : Waiting s.index s.collected
  pub closed : css ≡ closed_from none xs
  pub packet : s.packet ≡ open_after none xs

-- By what stands: bytes are still taken; the list is good and all of it is out; or it is refused.
abbrev pub Here : List ℕ → List ℕ → State Opened → List (List Command) → Standing → Type 0
Here list left s css going = Before list left s css
Here list left s css ended = (xs : List Step) × (records_of list ≡ records xs) × (css ≡ packets xs)
Here list left s css (faulted n) = (records_of list ≡ refused n s.index) × (css ≡ closed_from none (good_records list))

-- `out`: all that was written so far
pub record Reached (list left : List ℕ) (s : State Opened) (out : List ℕ) : Type 0 where
  pub css : List (List Command)
  pub bytes : out ≡ bytes_of_output css
  pub here : Here list left s css s.standing

pub while_going : {list left : List ℕ} {s : State Opened} {css : List (List Command)} → Here list left s css s.standing
    → s.standing ≡ going → Before list left s css
while_going {list} {left} {s} {css} h e = subst (λ (k : Standing). Here list left s css k) e h

pub begun : (list : List ℕ) → Reached list list (fresh none) []
unfolding fresh records_of good_records with_records closed_from open_after bytes_of_output output_of
begun list =
    record {
      css = [];
      bytes = refl;
      here =
          record {
            xs = [];
            fuel = length list;
            enough = omega arith;
            listed = refl;
            good = refl;
            waiting = tt;
            closed = refl;
            packet = refl;
          };
    }

waits : (index : ℕ) (c : List ℕ) (b : ℕ) → length (c ++ (b ∷ [])) < decided_at index (c ++ (b ∷ [])) → Waiting index (c ++ (b ∷ []))
waits index [] b h = h
waits index (a ∷ c) b h = h

-- One byte.
module _ (list left : List ℕ) (b : ℕ) (s : State Opened) (css : List (List Command)) (h : Before list (b ∷ left) s css) where
  abbrev shown : List ℕ
  shown = s.collected ++ (b ∷ [])

  joined : s.collected ++ (b ∷ left) ≡ shown ++ left
  joined = sym (append_snoc s.collected b left)

  shown-some : 1 ≤ length shown
  shown-some = rw length-append (omega arith)

  some_left : 0 < length (shown ++ left)
  some_left = let r = shown-some in rw length-append (omega arith)

  awaits : (k : Standing) → length shown < decided_at s.index shown
      → Before list left (record { standing = k; index = s.index; collected = shown; packet = s.packet }) css
  awaits k l =
      record {
        xs = h.xs;
        fuel = h.fuel;
        enough = rw (← joined) h.enough;
        listed = rw (← joined) h.listed;
        good = rw (← joined) h.good;
        waiting = waits s.index s.collected b l;
        closed = h.closed;
        packet = h.packet;
      }

  still-here : (k : Standing) → k ≡ going → length shown < decided_at s.index shown
      → Here list left (record { standing = k; index = s.index; collected = shown; packet = s.packet }) css k
  still-here k g l = rw g (awaits going l)

  module _ (d : length shown ≡ decided_at s.index shown) where
    same : first (record_refusals s.index (shown ++ left)) ≡ first (record_refusals s.index shown)
    same = decided-number s.index shown left d

    next : first (record_refusals s.index shown) ≡ 0
        → Before list left
        (record { standing = going; index = s.index + 1; collected = []; packet = opens s.packet (record_step shown) })
        (css ++ closes s.packet (record_step shown))
    next e =
        let n = decided-whole s.index shown d e in
        let two : 2 ≤ length shown = omega (arith, record_bytes_le (record_kind shown)) in
        let step : record_step (shown ++ left) ≡ record_step shown = same_step_lem shown left (omega arith) in
        let past : drop (record_bytes (record_kind (shown ++ left))) (shown ++ left) ≡ left =
        rw (same_kind_lem shown left two) (drop_at shown left _ n) in
        go h.fuel step past (rw joined at h.enough) (rw joined at h.listed) (rw joined at h.good)
      where
        x : Step
        x = record_step shown

        go : (k : ℕ) → record_step (shown ++ left) ≡ x → drop (record_bytes (record_kind (shown ++ left))) (shown ++ left) ≡ left
            → length (shown ++ left) ≤ k
            → records_of list ≡ with_records h.xs (records_from k s.index (shown ++ left))
            → good_records list ≡ h.xs ++ good_from k s.index (shown ++ left)
            → Before list left (record { standing = going; index = s.index + 1; collected = []; packet = opens s.packet x })
            (css ++ closes s.packet x)
        go zero p q m f g = absurd (omega (arith, some_left))
        go (suc k) p q m f g =
            let z = same ∙ e in
            record {
              xs = h.xs ++ (x ∷ []);
              fuel = k;
              enough = let l : length shown + length left ≤ suc k = rw length-append at m in
                  omega (arith, shown-some);
              listed = f ∙ rw (records-next k s.index (shown ++ left) some_left z, p, q, with_snoc) refl;
              good = g ∙ rw (good-next k s.index (shown ++ left) some_left z, p, q, append_snoc) refl;
              waiting = tt;
              closed = rw (closed_snoc, ← h.packet, ← h.closed) refl;
              packet = rw (open_snoc, ← h.packet) refl;
            }

    bad : (n : ℕ) → first (record_refusals s.index shown) ≡ suc n
        → (records_of list ≡ refused (suc n) s.index) × (css ≡ closed_from none (good_records list))
    bad n e = go h.fuel (rw joined at h.enough) (rw joined at h.listed) (rw joined at h.good)
      where
        go : (k : ℕ) → length (shown ++ left) ≤ k
            → records_of list ≡ with_records h.xs (records_from k s.index (shown ++ left))
            → good_records list ≡ h.xs ++ good_from k s.index (shown ++ left)
            → (records_of list ≡ refused (suc n) s.index) × (css ≡ closed_from none (good_records list))
        go zero m f g = absurd (omega (arith, some_left))
        go (suc k) m f g =
            let z = same ∙ e in (
              f ∙ rw (records-refused k s.index (shown ++ left) n some_left z, with_refused) refl,
              h.closed ∙ rw (g, good-refused k s.index (shown ++ left) n some_left z, append-nil) refl,
            )

  -- the byte's output behind what was written before
  pub reached-byte : (out : List ℕ) → out ≡ bytes_of_output css → s.standing ≡ going
      → let t = byte_taken packing_rule s b in Reached list left t.state (out ++ t.out)
  unfolding byte_taken packing_rule record_taken faulted_by
  reached-byte out o g = go (ltb (length shown) (decided_at s.index shown)) refl
    where
      Ends : Taken Opened → Type 0
      Ends t = Reached list left t.state (out ++ t.out)

      judged : (n : ℕ) → first (record_refusals s.index shown) ≡ n → length shown ≡ decided_at s.index shown
          → Ends (record_taken packing_rule n s (record_step shown))
      judged zero e d =
          record { css = css ++ closes s.packet (record_step shown); bytes = rw (output-append, ← o) refl; here = next d e }
      judged (suc n) e d = record { css = css; bytes = append-nil out ∙ o; here = bad d n e }

      go : (l : Bool) → ltb (length shown) (decided_at s.index shown) ≡ l
          → Ends (cond l
          (record { out = []; state = record { standing = s.standing; index = s.index; collected = shown; packet = s.packet } })
          (record_taken packing_rule (first (record_refusals s.index shown)) s (record_step shown)))
      go true l = record { css = css; bytes = append-nil out ∙ o; here = still-here s.standing g (ltb-true _ _ l) }
      go false l =
          let d : length shown ≡ decided_at s.index shown =
          (let a = ltb-false (length shown) (decided_at s.index shown) l in
          let c = reaches s.index s.collected b h.waiting in
          omega arith) in
          judged _ refl d

going-is : (k : Standing) → is_going k ≡ true → k ≡ going
unfolding is_going
going-is going e = refl
going-is ended e = let z : ◌≡◌ {A = ℕ} 0 1 = cc in absurd (omega arith)
going-is (faulted n) e = let z : ◌≡◌ {A = ℕ} 0 1 = cc in absurd (omega arith)

-- where bytes are taken on, nothing was handed out
pub goes_on_lem : {P : Type 0} (t : Taken P) → goes_on t ≡ true → (t.state.standing ≡ going) × (t.out ≡ [])
unfolding goes_on
goes_on_lem t e =
    let a = and_true (is_going t.state.standing) (eqb (length t.out) 0) e in
    (going-is _ a.0, none_left _ (eqb-true _ _ a.1))

-- The bytes of a part.
pub reached-bytes : (list rest out : List ℕ) (t : Taken Opened) (bs : List ℕ)
    → Reached list (bs ++ rest) t.state (out ++ t.out)
    → let q = bytes_taken packing_rule t bs in
    Reached list (drop q.taken bs ++ rest) q.left.state (out ++ q.left.out)
unfolding bytes_taken one_more
reached-bytes list rest out t [] h = h
reached-bytes list rest out t (b ∷ bs) h = go (goes_on t) refl (reached-bytes list rest out (byte_taken packing_rule t.state b) bs)
  where
    go : (g : Bool) → goes_on t ≡ g
        → (let t = byte_taken packing_rule t.state b in
        let q = bytes_taken packing_rule t bs in
        Reached list (bs ++ rest) t.state (out ++ t.out)
        → Reached list (drop q.taken bs ++ rest) q.left.state (out ++ q.left.out))
        → let q = cond g (one_more (bytes_taken packing_rule (byte_taken packing_rule t.state b) bs)) (record { taken = 0; left = t }) in
        Reached list (drop q.taken (b ∷ bs) ++ rest) q.left.state (out ++ q.left.out)
    go false g more = h
    go true g more =
        let (k, e) = goes_on_lem t g in
        let o : out ++ t.out ≡ out = rw e (append-nil out) in
        more (reached-byte list (bs ++ rest) b t.state h.css (while_going h.here k) out (sym o ∙ h.bytes) k)

-- All bytes of a part are taken where the call does not stop before.
pub all-taken : {P : Type 0} (r : Rattle.parts.specs.Taking.Packing P) (t : Taken P) (bs : List ℕ)
    → goes_on (bytes_taken r t bs).left ≡ true → (bytes_taken r t bs).taken ≡ length bs
unfolding bytes_taken one_more
all-taken r t [] g = refl
all-taken r t (b ∷ bs) g = go (goes_on t) refl (all-taken r (byte_taken r t.state b) bs) g
  where
    go : (k : Bool) → goes_on t ≡ k
        → (let q = bytes_taken r (byte_taken r t.state b) bs in goes_on q.left ≡ true → q.taken ≡ length bs)
        → goes_on (cond k (one_more (bytes_taken r (byte_taken r t.state b) bs)) (record { taken = 0; left = t })).left ≡ true
        → (cond k (one_more (bytes_taken r (byte_taken r t.state b) bs)) (record { taken = 0; left = t })).taken ≡ suc (length bs)
    go true k more g = ap suc (more g)
    go false k more g = let z : ◌≡◌ {A = ℕ} 0 1 = cc in absurd (omega arith)

-- The list's end.
module _ (list : List ℕ) (s : State Opened) (css : List (List Command)) (out : List ℕ) (o : out ≡ bytes_of_output css)
    (h : Before list [] s css) where
  all-out : s.collected ≡ [] → (xs : List Step) × (records_of list ≡ records xs) × (css ++ last_of s.packet ≡ packets xs)
  all-out e =
      let f : records_of list ≡ with_records h.xs (records_from h.fuel s.index []) = rw e at h.listed in
      (h.xs, f ∙ rw (records-end, with_records_lem, append-nil) refl, rw (packets_are, h.packet, h.closed) refl)

  cut : (b : ℕ) (bs : List ℕ) → s.collected ≡ b ∷ bs
      → (records_of list ≡ refused 22 s.index) × (css ≡ closed_from none (good_records list))
  cut b bs e =
      let q : s.collected ++ [] ≡ b ∷ bs = append-nil s.collected ∙ e in
      go h.fuel (rw q at h.enough) (rw q at h.listed) (rw q at h.good)
    where
      z : first (record_refusals s.index (b ∷ bs)) ≡ 22
      z = cut-number s.index b bs (rw e at h.waiting)

      go : (k : ℕ) → length (b ∷ bs) ≤ k → records_of list ≡ with_records h.xs (records_from k s.index (b ∷ bs))
          → good_records list ≡ h.xs ++ good_from k s.index (b ∷ bs)
          → (records_of list ≡ refused 22 s.index) × (css ≡ closed_from none (good_records list))
      go zero m f g = absurd (omega arith)
      go (suc k) m f g = (
        f ∙ rw (records-refused k s.index (b ∷ bs) 21 (omega arith) z, with_refused) refl,
        h.closed ∙ rw (g, good-refused k s.index (b ∷ bs) 21 (omega arith) z, append-nil) refl,
      )

  reached-end : (c : List ℕ) → s.collected ≡ c
      → let t = end_taken packing_rule s c in Reached list [] t.state (out ++ t.out)
  unfolding end_taken faulted_by packing_rule
  reached-end [] e = record { css = css ++ last_of s.packet; bytes = rw (output-append, ← o) refl; here = all-out e }
  reached-end (b ∷ bs) e = record { css = css; bytes = append-nil out ∙ o; here = cut b bs e }

-- A call.
module _ (list rest out part : List ℕ) (last : Bool) (s : State Opened) (h : Reached list (part ++ rest) s out)
    (whole : last ≡ true → rest ≡ []) where
  start : Taken Opened
  start = record { out = []; state = s }

  stop : Stopped Opened
  stop = bytes_taken packing_rule start part

  reached-stop : Reached list (drop stop.taken part ++ rest) stop.left.state (out ++ stop.left.out)
  unfolding stop start
  reached-stop = reached-bytes list rest out start part (rw append-nil h)

  reached-part : let q = part_taken packing_rule s part last in
      Reached list (drop q.taken part ++ rest) q.left.state (out ++ q.left.out)
  unfolding part_taken stop start
  reached-part = go (last && goes_on stop.left) refl
    where
      go : (b : Bool) → (last && goes_on stop.left) ≡ b
          → let q = cond b (record { taken = stop.taken; left = end_taken packing_rule stop.left.state stop.left.state.collected }) stop in
          Reached list (drop q.taken part ++ rest) q.left.state (out ++ q.left.out)
      go false e = reached-stop
      go true e =
          let a = and_true last (goes_on stop.left) e in
          let (k, n) = goes_on_lem stop.left a.1 in
          let r : drop stop.taken part ++ rest ≡ [] =
          rw (all-taken packing_rule start part a.1, whole a.0, append-nil) (drop_of_length-le part {i = length part} (omega arith)) in
          let q : out ++ stop.left.out ≡ out = rw n (append-nil out) in
          let h = rw (r, q) at reached-stop in
          rw r (reached-end list stop.left.state h.css out h.bytes (while_going h.here k) _ refl)

  pub reached-call : let q = called packing_rule s part last in
      Reached list (drop q.taken part ++ rest) q.left.state (out ++ q.left.out)
  unfolding called
  reached-call = go (is_going s.standing)
    where
      go : (g : Bool) → let q = cond g (part_taken packing_rule s part last) (record { taken = 0; left = record { out = []; state = s } }) in
          Reached list (drop q.taken part ++ rest) q.left.state (out ++ q.left.out)
      go true = reached-part
      go false = rw append-nil h
