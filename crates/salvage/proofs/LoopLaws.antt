-- What both passes' loops keep: the stretches so far, and that those of the rest follow them.
use Prim.Native.Nat.{ℕ, ◌+◌, ◌-◌, ◌*◌, ◌≤◌, ◌<◌}
use mathlib.Core.Path.{◌≡◌, refl, sym, ap, ◌∙◌}
use mathlib.Core.List.{List, [], ◌∷◌, ◌++◌, append_assoc, append-nil}
use native.Mathlib.Omega.{arith}
use native.Mathlib.Nat.{add-zero, zero-add, add_assoc}
use lib.ListN.{length, take, drop, length-append, length-drop, drop_of_length-le}
use lib.Seq.{drop-drop}
use Rattle.packet.proofs.SliceLaws.{tail-whole}
use Rattle.salvage.specs.Salvage.{Stretch, kept, skipped, scan, scan_from, bytes_of_kept, log_from, kept_count, entry_count, counted}
use Rattle.salvage.specs.Inside.{first_span, span_of, tally, record_part, entry_part, Roomy}
use Rattle.salvage.specs.declared.scan.Span.{Span}
use Rattle.salvage.specs.declared.scan.Counts.{Counts}
use Rattle.salvage.proofs.ScanLaws.{bytes_of, joined, begins, covered}

-- output, log and counts of stretches one behind the other
pub kept_append : (a b : List Stretch) → bytes_of_kept (a ++ b) ≡ bytes_of_kept a ++ bytes_of_kept b
unfolding bytes_of_kept
kept_append [] b = refl
kept_append (kept r ∷ a) b = rw (kept_append a b) (sym (append_assoc r (bytes_of_kept a) (bytes_of_kept b)))
kept_append (skipped bs ∷ a) b = kept_append a b

pub log-append : (at : ℕ) (a b : List Stretch) → log_from at (a ++ b) ≡ log_from at a ++ log_from (at + length (joined a)) b
unfolding log_from joined bytes_of
log-append at [] b = rw add-zero refl
log-append at (kept r ∷ a) b = rw (log-append (at + length r) a b, length-append, add_assoc) refl
log-append at (skipped bs ∷ a) b = rw (log-append (at + length bs) a b, length-append, add_assoc) refl

pub joined-append : (a b : List Stretch) → joined (a ++ b) ≡ joined a ++ joined b
unfolding joined
joined-append [] b = refl
joined-append (s ∷ a) b = rw (joined-append a b) (sym (append_assoc (bytes_of s) (joined a) (joined b)))

records-append : (a b : List Stretch) → kept_count (a ++ b) ≡ kept_count a + kept_count b
unfolding kept_count
records-append [] b = omega arith
records-append (kept r ∷ a) b = rw (records-append a b) (omega arith)
records-append (skipped bs ∷ a) b = records-append a b

pub entries-append : (a b : List Stretch) → entry_count (a ++ b) ≡ entry_count a + entry_count b
unfolding entry_count
entries-append [] b = omega arith
entries-append (kept r ∷ a) b = entries-append a b
entries-append (skipped bs ∷ a) b = rw (entries-append a b) (omega arith)

-- two numbers for each entry
pub log-length : (at : ℕ) (ss : List Stretch) → length (log_from at ss) ≡ 2 * entry_count ss
unfolding log_from entry_count
log-length at [] = refl
log-length at (kept r ∷ ss) = log-length (at + length r) ss
log-length at (skipped bs ∷ ss) = let h = log-length (at + length bs) ss in omega arith

-- one stretch more
module _ (done : List Stretch) (t : Stretch) (s : Span) (e : s ≡ span_of t) where
  tally-one : (c : Counts) → c ≡ counted done → tally c s ≡ counted (done ++ t ∷ [])
  unfolding tally counted span_of kept_count bytes_of_kept entry_count
  tally-one c f = rw (f, e, kept_append, length-append, records-append, entries-append) (go t)
    where
      go : (t : Stretch) → tally (counted done) (span_of t)
          ≡ record {
            records = kept_count done + kept_count (t ∷ []);
            bytes = length (bytes_of_kept done) + length (bytes_of_kept (t ∷ []));
            entries = entry_count done + entry_count (t ∷ []);
          }
      go (kept r) = simp (append-nil, add-zero)
      go (skipped bs) = simp add-zero

  pub kept-one : (rest : List ℕ) → bytes_of t ≡ take (length (bytes_of t)) rest
      → bytes_of_kept (done ++ t ∷ []) ≡ bytes_of_kept done ++ record_part s rest
  unfolding record_part span_of bytes_of_kept bytes_of
  kept-one rest f = rw (e, kept_append) (go t f)
    where
      go : (t : Stretch) → bytes_of t ≡ take (length (bytes_of t)) rest
          → bytes_of_kept done ++ bytes_of_kept (t ∷ []) ≡ bytes_of_kept done ++ record_part (span_of t) rest
      go (kept r) f = rw (append-nil, ← f) refl
      go (skipped bs) f = refl

  pub log-one : (at : ℕ) → at ≡ length (joined done) → log_from 0 (done ++ t ∷ []) ≡ log_from 0 done ++ entry_part s at
  unfolding entry_part span_of log_from
  log-one at f = rw (e, f, log-append, zero-add) (go t)
    where
      go : (t : Stretch)
          → log_from 0 done ++ log_from (length (joined done)) (t ∷ [])
          ≡ log_from 0 done ++ entry_part (span_of t) (length (joined done))
      go (kept r) = refl
      go (skipped bs) = refl

-- What holds before a stretch: those so far, and the scan from there on.
pub record Held (list : List ℕ) (at : ℕ) (done : List Stretch) : Type 0 where
  pub same : scan list ≡ done ++ scan (drop at list)
  pub place : at ≡ length (joined done)
  pub records : kept_count done ≤ at
  pub bytes : length (bytes_of_kept done) ≤ at
  pub entries : entry_count done ≤ at

pub held_first : (list : List ℕ) → Held list 0 []
unfolding joined kept_count bytes_of_kept entry_count
held_first list =
    record { same = refl; place = refl; records = omega arith; bytes = omega arith; entries = omega arith }

pub held-within : {list : List ℕ} {at : ℕ} {done : List Stretch} → Held list at done → at ≤ length list
held-within {list} {at} {done} h =
    let e : list ≡ joined done ++ joined (scan (drop at list)) =
    sym (covered list) ∙ ap joined h.same ∙ joined-append done _ in
    omega (arith, h.place, simp length-append at (ap length e))

-- at the list's end these are all
pub held-last : {list : List ℕ} {at : ℕ} {done : List Stretch} → Held list at done → length list ≤ at → scan list ≡ done
unfolding scan scan_from
held-last {list} {at} {done} h l = h.same ∙ rw (drop_of_length-le list l) (append-nil done)

-- The stretch that a turn finds.
pub record Turn (list : List ℕ) (at : ℕ) (done : List Stretch) (s : Span) : Type 0 where
  pub t : Stretch
  pub span : s ≡ span_of t
  pub front : bytes_of t ≡ take (length (bytes_of t)) (drop at list)
  pub some : 1 ≤ s.bytes
  pub next : Held list (at + s.bytes) (done ++ t ∷ [])

span-bytes : (t : Stretch) → (span_of t).bytes ≡ length (bytes_of t)
unfolding span_of bytes_of
span-bytes (kept r) = refl
span-bytes (skipped bs) = refl

-- a stretch counts at most as much as it has bytes
counts-within : (t : Stretch) → 1 ≤ length (bytes_of t)
    → (kept_count (t ∷ []) ≤ length (bytes_of t)) × (length (bytes_of_kept (t ∷ [])) ≤ length (bytes_of t))
    × (entry_count (t ∷ []) ≤ length (bytes_of t))
unfolding kept_count bytes_of_kept entry_count bytes_of
counts-within (kept r) h = rw append-nil (omega arith)
counts-within (skipped bs) h = omega arith

pub turn : (list : List ℕ) (at : ℕ) (done : List Stretch) (s : Span) → Held list at done → at < length list
    → s ≡ first_span (scan (take (length list - at) (drop at list))) → Turn list at done s
unfolding first_span joined
turn list at done s h l e =
    let b = begins (drop at list) (rw length-drop (omega arith)) in
    let t = b.t in
    let sp : s ≡ span_of t = e ∙ rw (tail-whole, b.same) refl in
    let n : s.bytes ≡ length (bytes_of t) = ap (λ (x : Span). x.bytes) sp ∙ span-bytes t in
    let w = counts-within t b.first.some in
    record {
      t = t;
      span = sp;
      front = b.first.front;
      some = rw n b.first.some;
      next = record {
        same = h.same ∙ rw (b.same, b.first.behind, drop-drop, n, append_assoc) refl;
        place = rw (joined-append, length-append, append-nil, n) (ap (λ (x : ℕ). x + length (bytes_of t)) h.place);
        records = rw (records-append, n) (omega (arith, w.0, h.records));
        bytes = rw (kept_append, length-append, n) (omega (arith, w.1, h.bytes));
        entries = rw (entries-append, n) (omega (arith, w.2, h.entries));
      };
    }

-- with the counts of the stretches so far
pub record Counting (list : List ℕ) (at : ℕ) (c : Counts) (done : List Stretch) : Type 0 where
  pub held : Held list at done
  pub counts : c ≡ counted done

-- the same, of some stretches
pub record Holding (list : List ℕ) (at : ℕ) (c : Counts) : Type 0 where
  pub done : List Stretch
  pub counting : Counting list at c done

pub counting-first : (list : List ℕ) (c : Counts) → c ≡ counted [] → Counting list 0 c []
counting-first list c e = record { held = held_first list; counts = e }

pub counting-last : {list : List ℕ} {at : ℕ} {c : Counts} {done : List Stretch} → Counting list at c done → length list ≤ at
    → c ≡ counted (scan list)
counting-last h l = rw (held-last h.held l) h.counts

-- a turn, as the code makes it
module _ (list : List ℕ) (at : ℕ) (c : Counts) (done : List Stretch) (s : Span) (h : Counting list at c done)
    (l : at < length list) (e : s ≡ first_span (scan (take (length list - at) (drop at list)))) where
  pub this : Turn list at done s
  this = turn list at done s h.held l e

  pub behind-within : at + s.bytes ≤ length list
  behind-within = held-within this.next

  pub some_bytes : 1 ≤ s.bytes
  some_bytes = this.some

  pub roomy : length list < 18446744073709551616 → Roomy c s
  unfolding counted
  roomy fits =
      let w = behind-within in
      let o = some_bytes in
      let q = h.held in
      let r : c.records ≡ kept_count done = ap (λ (x : Counts). x.records) h.counts in
      let b : c.bytes ≡ length (bytes_of_kept done) = ap (λ (x : Counts). x.bytes) h.counts in
      let n : c.entries ≡ entry_count done = ap (λ (x : Counts). x.entries) h.counts in
      record {
        records = omega (arith, q.records);
        bytes = omega (arith, q.bytes);
        entries = omega (arith, q.entries);
      }

  pub counting-next : (d : Counts) → d ≡ tally c s → Counting list (at + s.bytes) d (done ++ this.t ∷ [])
  counting-next d f =
      record {
        held = this.next;
        counts = f ∙ tally-one done this.t s this.span c h.counts;
      }
