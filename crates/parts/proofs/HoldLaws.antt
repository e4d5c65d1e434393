-- The packets that are out hold the first of the list's good records.
use Prim.Native.Nat.{ℕ, zero, suc, ◌+◌}
use mathlib.Core.Path.{◌≡◌, refl, sym, ap, ◌∙◌, subst}
use mathlib.Core.List.{List, [], ◌∷◌, ◌++◌, map, append_assoc, append-nil}
use mathlib.Core.Bool.{Bool, true, false, cond}
use native.Mathlib.Omega.{arith}
use lib.ListN.{length, take, drop, length-append}
use lib.Seq.{append_snoc, take-append_seam}
use Rattle.lbp16.specs.Space.{Space}
use Rattle.packet.specs.Step.{Kind, Step, is_info, is_write, is_status}
use Rattle.packet.specs.Rules.{first}
use Rattle.cue.specs.Records.{Listed, records, refused, records_of, record_kind, record_bytes, record_step, record_refusals}
use Rattle.cue.specs.Packing.{Command, bytes_of_packet, element_steps, command_steps, unlock_command, Open, commands_of, joined, started}
use Rattle.cue.specs.Packing.{turn, pack_from, packets}
use Rattle.cue.specs.Compile.{packed}
use Rattle.cue.proofs.Relations.{Good, Holds}
use Rattle.cue.proofs.ReadingLaws.{passing}
use Rattle.cue.proofs.PackingLaws.{Joining, joining, joined-steps, turn-cases}
use Rattle.cue.proofs.RunAll.{good-split}
use Rattle.cue.proofs.WalkLaws.{remains-all}
use Rattle.cue.proofs.Demand3.{packets_hold}
use Rattle.parts.specs.Rule.{none, last_of, good_then, good_from, good_records, packets_by, packets_of, is_unlock}
use Rattle.parts.specs.Rule.{packet_records, records_held, packet_count, count_held}
use Rattle.parts.proofs.ListLaws.{open_after, good-all, packets_are}

good-from : (fuel index : ℕ) (rest : List ℕ) → Good (good_from fuel index rest)
unfolding good_from good_then
good-from zero index rest = Good.none
good-from (suc fuel) index [] = Good.none
good-from (suc fuel) index (b ∷ bs) = go (first (record_refusals index rest)) refl (good-from fuel (index + 1) _)
  where
    rest : List ℕ
    rest = b ∷ bs

    go : (n : ℕ) → first (record_refusals index rest) ≡ n
        → Good (good_from fuel (index + 1) (drop (record_bytes (record_kind rest)) rest))
        → Good (good_then n (record_step rest) (good_from fuel (index + 1) (drop (record_bytes (record_kind rest)) rest)))
    go zero e g = let w = passing index rest e in Good.more w.good w.plain w.wide g
    go (suc n) e g = Good.none

-- One record more is one record more held.
held-append : (cs ds : List Command) → packet_records (cs ++ ds) ≡ packet_records cs ++ packet_records ds
unfolding packet_records
held-append [] ds = refl
held-append (c ∷ cs) ds = rw (held-append cs ds, append_assoc) refl

held-last : (cs : List Command) (c : Command) → c.increment ≡ true
    → packet_records (cs ++ (c ∷ [])) ≡ packet_records cs ++ command_steps c
unfolding packet_records is_unlock
held-last cs c i = held-append cs (c ∷ []) ∙ rw (i, append-nil) refl

held-joined : (o : Open) (x : Step) → Joining o x → o.last.increment ≡ true
    → packet_records (commands_of (joined o x)) ≡ packet_records (commands_of o) ++ (x ∷ [])
unfolding commands_of joined
held-joined o x j i =
    held-last o.before (joined o x).last i
    ∙ rw (joined-steps o x j i, held-last o.before o.last i, append_assoc) refl

held-unlock : (b : Bool) → packet_records (cond b (unlock_command ∷ []) []) ≡ []
unfolding packet_records is_unlock unlock_command is_write is_status
held-unlock true = refl
held-unlock false = refl

held-started : (cs : List Command) (x : Step) → packet_records (commands_of (started cs x)) ≡ packet_records cs ++ (x ∷ [])
unfolding commands_of started command_steps element_steps
held-started cs x =
    held-last (started cs x).before (started cs x).last refl ∙ rw (held-append, held-unlock, append-nil) refl

-- an open packet whose last command may be joined
record Plain (o : Open) : Type 0 where
  increment : o.last.increment ≡ true
  plain : is_info o.last.kind ≡ false

started-plain : (cs : List Command) (x : Step) → is_info x.kind ≡ false → Plain (started cs x)
unfolding started
started-plain cs x p = record { increment = refl; plain = p }

joined-plain : (o : Open) (x : Step) → Plain o → Plain (joined o x)
unfolding joined
joined-plain o x p = record { increment = p.increment; plain = p.plain }

held-from : (o : Open) {xs : List Step} → Plain o → Good xs
    → records_held (pack_from o xs) ≡ packet_records (commands_of o) ++ xs
unfolding pack_from records_held packet_records
held-from o p Good.none = refl
held-from o p (Good.more {x} {xs} bad plain w g) =
    turn-cases o x (λ t. records_held (t.closed ++ pack_from t.open? xs) ≡ packet_records (commands_of o) ++ (x ∷ xs))
    (λ j. held-from (joined o x) (joined-plain o x p) g
    ∙ rw (held-joined o x (joining o x p.plain plain j) p.increment, append_snoc) refl)
    (λ l. held-from (started (commands_of o) x) (started-plain (commands_of o) x plain) g ∙ rw (held-started, append_snoc) refl)
    (rw (held-from (started [] x) (started-plain [] x plain) g, held-started) refl)

-- The packing rule's packets hold all the records.
pub held_all : {xs : List Step} → Good xs → records_held (packets xs) ≡ xs
unfolding packets records_held packet_records
held_all Good.none = refl
held_all (Good.more {x} {xs} bad plain w g) = held-from (started [] x) (started-plain [] x plain) g ∙ rw held-started refl

-- as many as their commands' counts
steps-count : (k : Kind) (s : Space) (a d : ℕ) (es : List (List ℕ)) → length (element_steps k s a d es) ≡ length es
unfolding element_steps
steps-count k s a d [] = refl
steps-count k s a d (e ∷ es) = ap suc (steps-count k s (a + d) d es)

packet-count : (cs : List Command) → length (packet_records cs) ≡ packet_count cs
unfolding packet_records packet_count command_steps
packet-count [] = refl
packet-count (c ∷ cs) = rw (length-append, packet-count cs, one (is_unlock c)) refl
  where
    one : (b : Bool) → length (cond b [] (command_steps c)) ≡ cond b 0 (length c.elements)
    one true = refl
    one false = steps-count _ _ _ _ c.elements

pub held-count : (css : List (List Command)) → length (records_held css) ≡ count_held css
unfolding records_held count_held
held-count [] = refl
held-count (cs ∷ css) = rw (length-append, packet-count cs, held-count css) refl

-- The first packets of some records are the packets of the first of them, however these are packed.
record FrontBy (pack : List Step → List (List Command)) (xs : List Step) (css : List (List Command)) : Type 0 where
  ys : List Step
  zs : List Step
  parts : xs ≡ ys ++ zs
  packed : pack ys ≡ css

front-from : (o : Open) (xs : List Step) (cs : List Command) (css dss : List (List Command)) → pack_from o xs ≡ cs ∷ (css ++ dss)
    → FrontBy (pack_from o) xs (cs ∷ css)
unfolding pack_from
front-from o [] cs [] dss e = record { ys = []; zs = []; parts = refl; packed = cc }
front-from o [] cs (ds ∷ css) dss e = let z : ◌≡◌ {A = ℕ} 0 1 = cc in absurd (omega arith)
front-from o (x ∷ xs) cs css dss e =
    turn-cases o x (λ t. turn o x ≡ t → FrontBy (pack_from o) (x ∷ xs) (cs ∷ css)) (λ _ t. still _ t (front-from (joined o x) xs cs css dss))
    (λ _ t. still _ t (front-from (started (commands_of o) x) xs cs css dss))
    (λ t. closing t css (rw t at e) (λ ds css. front-from (started [] x) xs ds css dss)) refl
  where
    behind : (p : Open) (css : List (List Command)) (f : FrontBy (pack_from p) xs css) (all : List (List Command))
        → (turn o x).closed ++ pack_from (turn o x).open? f.ys ≡ all → FrontBy (pack_from o) (x ∷ xs) all
    behind p css f all q =
        record { ys = x ∷ f.ys; zs = f.zs; parts = ap (λ (l : List Step). x ∷ l) f.parts; packed = q }

    still : (p : Open) → turn o x ≡ record { closed = []; open? = p }
        → (pack_from p xs ≡ cs ∷ (css ++ dss) → FrontBy (pack_from p) xs (cs ∷ css)) → FrontBy (pack_from o) (x ∷ xs) (cs ∷ css)
    still p t more = let f = more (rw t at e) in behind p (cs ∷ css) f (cs ∷ css) (rw t f.packed)

    closing : turn o x ≡ record { closed = commands_of o ∷ []; open? = started [] x } → (css : List (List Command))
        → commands_of o ∷ pack_from (started [] x) xs ≡ cs ∷ (css ++ dss)
        → ((ds : List Command) (css : List (List Command)) → pack_from (started [] x) xs ≡ ds ∷ (css ++ dss)
        → FrontBy (pack_from (started [] x)) xs (ds ∷ css))
        → FrontBy (pack_from o) (x ∷ xs) (cs ∷ css)
    closing t [] e more = record { ys = []; zs = x ∷ xs; parts = refl; packed = cc }
    closing t (ds ∷ css) e more =
        let c : commands_of o ≡ cs = cc in
        let f = more ds css (cc) in
        behind (started [] x) (ds ∷ css) f (cs ∷ (ds ∷ css)) (rw (t, f.packed, c) refl)

front_of_lem : (xs : List Step) (css dss : List (List Command)) → packets xs ≡ css ++ dss → FrontBy packets xs css
unfolding packets
front_of_lem xs [] dss e = record { ys = []; zs = xs; parts = refl; packed = refl }
front_of_lem [] (cs ∷ css) dss e = let z : ◌≡◌ {A = ℕ} 0 1 = cc in absurd (omega arith)
front_of_lem (x ∷ xs) (cs ∷ css) dss e =
    let f = front-from (started [] x) xs cs css dss e in
    record { ys = x ∷ f.ys; zs = f.zs; parts = ap (λ (l : List Step). x ∷ l) f.parts; packed = f.packed }

-- the packets of a list are the first of those that its good records make
whole-packets : (list : List ℕ) → (dss : List (List Command)) × (packets (good_records list) ≡ packets_of list ++ dss)
unfolding packets_of packets_by good_records records_of
whole-packets list = go (records_of list) refl
  where
    go : (v : Listed) → records_of list ≡ v
        → (dss : List (List Command)) × (packets (good_records list) ≡ packets_by v (good_records list) ++ dss)
    go (records xs) e = ([], rw (good-all (length list) 0 list xs (omega arith) (remains-all list xs e), append-nil) refl)
    go (refused n i) e = (last_of (open_after none (good_records list)), packets_are (good_records list))

-- So packets that are out hold the first of the good records, in order.
pub record Front (xs : List Step) (css : List (List Command)) : Type 0 where
  pub held : records_held css ≡ take (count_held css) xs
  pub holds : Holds (map bytes_of_packet css) (records_held css)
  pub good : Good (records_held css)

front-holds : (ys zs : List Step) (css : List (List Command)) → packets ys ≡ css → Good ys → Front (ys ++ zs) css
unfolding packed
front-holds ys zs css e g =
    let h : records_held css ≡ ys = rw e at (held_all g) in
    record {
      held = rw (← held-count css, h) (sym (take-append_seam ys zs));
      holds = rw (h, ← e) (packets_hold ys g);
      good = rw h g;
    }

pub out-holds : (list : List ℕ) (css later : List (List Command)) → packets_of list ≡ css ++ later → Front (good_records list) css
unfolding good_records
out-holds list css later e =
    let g : Good (good_records list) = good-from (length list) 0 list in
    let (dss, w) = whole-packets list in
    let f = front_of_lem (good_records list) css (later ++ dss) (w ∙ rw (e, append_assoc) refl) in
    let first = (good-split f.ys f.zs (rw f.parts at g)).0 in
    subst (λ (xs : List Step). Front xs css) (sym f.parts) (front-holds f.ys f.zs css f.packed first)
