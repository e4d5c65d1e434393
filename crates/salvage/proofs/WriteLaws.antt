-- What the second pass writes, and what its loop keeps.
use Prim.Native.Nat.{ℕ, ◌+◌, ◌-◌, ◌*◌, ◌≤◌, ◌<◌}
use mathlib.Core.Path.{◌≡◌, refl, ap, ◌∙◌}
use mathlib.Core.List.{List, [], ◌∷◌, ◌++◌}
use mathlib.Core.Bool.{true, false}
use native.Mathlib.Omega.{arith}
use lib.ListN.{length, take, drop, length-append, length-drop}
use lib.Seq.{sets, sets-eq, drop-drop, take-append_seam, drop-append-add, length-take-le}
use Rattle.packet.proofs.SliceLaws.{tail-whole}
use Rattle.salvage.specs.Salvage.{Stretch, scan, bytes_of_kept, log_from, entry_count, counted, output, logged, entries}
use Rattle.salvage.specs.Inside.{first_span, tally, record_part, entry_part, Ready}
use Rattle.salvage.specs.declared.scan.Span.{Span}
use Rattle.salvage.specs.declared.scan.Counts.{Counts}
use Rattle.salvage.proofs.LoopLaws.{Held, Turn, Counting, counting-first, counting-next, this, kept-one, log-one}
use Rattle.salvage.proofs.LoopLaws.{log-length, entries-append, held-last, held-within}

-- a stretch's bytes in the output
module _ (s : Span) (rest : List ℕ) where
  pub record_kept : s.kept ≡ true → record_part s rest ≡ take s.bytes rest
  unfolding record_part
  record_kept e = rw e refl

  pub record_none : s.kept ≡ false → record_part s rest ≡ []
  unfolding record_part
  record_none e = rw e refl

  pub record_fits : (at k : ℕ) → s.kept ≡ true → s.bytes ≤ length rest → at + length (record_part s rest) ≤ k → at + s.bytes ≤ k
  record_fits at k e h f = let l = length-take-le s.bytes rest h in omega (arith, ap length (record_kept e))

-- and its entry in the log
module _ (s : Span) (at : ℕ) where
  pub entry-none : s.kept ≡ true → entry_part s at ≡ []
  unfolding entry_part
  entry-none e = rw e refl

  pub entry_skipped : s.kept ≡ false → entry_part s at ≡ at ∷ s.bytes ∷ []
  unfolding entry_part
  entry_skipped e = rw e refl

  pub entry-fits : (n k : ℕ) → s.kept ≡ false → n + length (entry_part s at) ≤ k → n + 2 ≤ k
  entry-fits n k e f = omega (arith, ap length (entry_skipped e))

-- a part put behind what stands at a room's front
front-more : (old front part all room : List ℕ) (at : ℕ) → room ≡ front ++ drop (length front) old → at ≡ length front
    → all ≡ front ++ part → at + length part ≤ length old → sets room at part ≡ all ++ drop (length all) old
front-more old front part all room at r e a h =
    let fits : length front + length part ≤ length (front ++ drop (length front) old) = rw (length-append, length-drop) (omega arith) in
    rw (r, e, a, sets-eq part _ _ fits, take-append_seam, drop-append-add, drop-drop, length-append) refl

-- the rooms on the way: what is kept and logged so far stands at their fronts
pub record Writing (list room₀ log₀ : List ℕ) (at : ℕ) (c : Counts) (room log : List ℕ) : Type 0 where
  pub done : List Stretch
  pub counting : Counting list at c done
  pub room-is : room ≡ bytes_of_kept done ++ drop (length (bytes_of_kept done)) room₀
  pub log_is : log ≡ log_from 0 done ++ drop (length (log_from 0 done)) log₀

-- a room keeps its length
same-room : (old front room : List ℕ) → room ≡ front ++ drop (length front) old → length front ≤ length old
    → length room ≡ length old
same-room old front room e h = ap length e ∙ rw (length-append, length-drop) (omega arith)

pub writing-first : (list room log : List ℕ) (c : Counts) → c ≡ counted [] → Writing list room log 0 c room log
unfolding bytes_of_kept log_from
writing-first list room log c e = record { done = []; counting = counting-first list c e; room-is = refl; log_is = refl }

-- the stretches so far have no more entries than all
entries_so_far : {list : List ℕ} {at : ℕ} {done : List Stretch} → Held list at done → entry_count done ≤ entries list
unfolding entries
entries_so_far {list} {at} {done} h = rw (h.same, entries-append) (omega arith)

module _ (list room₀ log₀ room log : List ℕ) (at : ℕ) (c : Counts) (ready : Ready list room₀ log₀)
    (w : Writing list room₀ log₀ at c room log) where
  pub room-same : length room ≡ length room₀
  room-same =
      let h = w.counting.held in
      same-room room₀ (bytes_of_kept w.done) room w.room-is (omega (arith, h.bytes, held-within h, ready.bytes))

  pub log-same : length log ≡ length log₀
  log-same =
      same-room log₀ (log_from 0 w.done) log w.log_is
      (omega (arith, log-length 0 w.done, entries_so_far w.counting.held, ready.numbers))

  pub writing-last : length list ≤ at
      → (room ≡ output list ++ drop (length (output list)) room₀) × (log ≡ logged list ++ drop (length (logged list)) log₀)
  unfolding output logged
  writing-last l = let e = held-last w.counting.held l in rw e (w.room-is, w.log_is)

  module _ (s : Span) (l : at < length list) (e : s ≡ first_span (scan (take (length list - at) (drop at list)))) where
    abbrev t : Turn list at w.done s
    t = this list at c w.done s w.counting l e

    abbrev rest : List ℕ
    rest = take (length list - at) (drop at list)

    bytes-is : c.bytes ≡ length (bytes_of_kept w.done)
    unfolding counted
    bytes-is = ap (λ (x : Counts). x.bytes) w.counting.counts

    entries-is : 2 * c.entries ≡ length (log_from 0 w.done)
    unfolding counted
    entries-is =
        let n : c.entries ≡ entry_count w.done = ap (λ (x : Counts). x.entries) w.counting.counts in
        omega (arith, log-length 0 w.done)

    kept_more : bytes_of_kept (w.done ++ t.t ∷ []) ≡ bytes_of_kept w.done ++ record_part s rest
    kept_more = rw tail-whole (kept-one w.done t.t s t.span (drop at list) t.front)

    log-more : log_from 0 (w.done ++ t.t ∷ []) ≡ log_from 0 w.done ++ entry_part s at
    log-more = log-one w.done t.t s t.span at w.counting.held.place

    -- there is room for the record
    pub record_room : (s.bytes ≤ length rest) × (c.bytes + length (record_part s rest) ≤ length room)
    record_room =
        let n : length (bytes_of_kept (w.done ++ t.t ∷ [])) ≡ length (bytes_of_kept w.done) + length (record_part s rest) =
        ap length kept_more ∙ length-append (bytes_of_kept w.done) (record_part s rest) in
        let k = held-within t.next in (
          rw (tail-whole, length-drop) (omega arith),
          omega (arith, t.next.bytes, ready.bytes, room-same, bytes-is),
        )

    -- and for the entry
    pub entry-room : 2 * c.entries + length (entry_part s at) ≤ length log
    entry-room =
        let n : length (log_from 0 (w.done ++ t.t ∷ [])) ≡ length (log_from 0 w.done) + length (entry_part s at) =
        ap length log-more ∙ length-append (log_from 0 w.done) (entry_part s at) in
        omega (arith, log-length 0 (w.done ++ t.t ∷ []), entries_so_far t.next, ready.numbers, log-same, entries-is)

    pub writing-next : (d : Counts) (room₁ log₁ : List ℕ) → d ≡ tally c s → room₁ ≡ sets room c.bytes (record_part s rest)
        → log₁ ≡ sets log (2 * c.entries) (entry_part s at) → Writing list room₀ log₀ (at + s.bytes) d room₁ log₁
    writing-next d room₁ log₁ f p q =
        let a = record_room.1 in
        let b = entry-room in
        record {
          done = w.done ++ t.t ∷ [];
          counting = counting-next list at c w.done s w.counting l e d f;
          room-is =
              p
              ∙ front-more room₀ (bytes_of_kept w.done) (record_part s rest) _ room c.bytes w.room-is bytes-is kept_more
              (omega (arith, room-same));
          log_is = q ∙ front-more log₀ (log_from 0 w.done) (entry_part s at) _ log (2 * c.entries) w.log_is entries-is log-more (omega (arith, log-same));
        }
