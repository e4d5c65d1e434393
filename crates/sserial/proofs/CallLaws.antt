-- What packing and unpacking answer, by the tests that the code makes.
use Prim.Native.Nat.{ℕ, zero, suc, ◌+◌, ◌*◌, ◌^◌, ◌≤◌, ◌<◌}
use mathlib.Core.Path.{◌≡◌, refl, sym, ap, ◌∙◌}
use mathlib.Core.Bool.{Bool, true, false, not, ◌||◌, cond, or-true}
use mathlib.Core.List.{List, [], ◌∷◌}
use native.Mathlib.Omega.{arith}
use lib.ListN.{length, get_or, take, drop, set, length-take}
use lib.Seq.{sets, get_or-take, get_or-drop}
use lib.Dec.{eqb, ltb}
use borrow.Author.Tests.{ltb-false, le-ltb, eqb-true, eq-eqb, ne_eqb, not-false}
use Rattle.std.specs.Prelude.{Some, None}
use Rattle.std.proofs.lemmas.Option.{cond_some, none-some}
use Rattle.lbp16.specs.Answer.{Answer, accepted, refused}
use Rattle.lbp16.proofs.BoolLaws.{or_false, and_true}
use Rattle.sserial.specs.Table.{checked_at, table_at, directed, bits, any_miswide, overfull, stands_in}
use Rattle.sserial.specs.Layout.{joined, words_of, packed, unpacked, in_range, fitting}
use Rattle.sserial.specs.Calls.{no_channel, packed_by, Outcome, unpacked_by, called_on, counted}
use Rattle.sserial.specs.Inside.{Each, AllWide, Packable, fields_met, chosen, rows_from, flat}
use Rattle.sserial.specs.declared.table.Field.{Field}
use Rattle.sserial.specs.declared.table.Direction.{Direction}
use Rattle.sserial.specs.declared.table.Direction.TheVariants.{Inputs, Outputs}
use Rattle.sserial.proofs.LayoutLaws.{words-length}
use Rattle.sserial.proofs.BitLaws.{each_below}
use Rattle.sserial.proofs.ChannelLaws.{channel_set, row_at}
use Rattle.sserial.proofs.FieldLaws.{laid-met}
use Rattle.sserial.proofs.CheckedLaws.{Laid, Counts, laid-checked, refused-checked}

-- an outcome from its parts
pub refused-by : {a : Answer} (kept : List ℕ) → a ≡ refused 40 0
    → ◌≡◌ {A = Outcome} (record { answer = a; left = kept }) (record { answer = refused 40 0; left = kept })
refused-by kept e = λ i. record { answer = e i; left = kept }

pub left_by_lem : {after new : List ℕ} → after ≡ new
    → ◌≡◌ {A = Outcome} (record { answer = accepted []; left = after }) (record { answer = accepted []; left = new })
left_by_lem e = λ i. record { answer = accepted []; left = e i }

-- a channel that is there
pub channel_there : (channel : ℕ) (registers : List ℕ) → no_channel channel registers ≡ false → (channel < 8) × (length registers ≡ 24)
unfolding no_channel
channel_there channel registers h =
    let o = or_false (ltb 7 channel) (not (eqb (length registers) 24)) h in
    let l = ltb-false 7 channel o.0 in
    (omega arith, eqb-true _ _ (not-false _ o.1))

pub there : (channel : ℕ) (registers : List ℕ) → channel < 8 → length registers ≡ 24 → no_channel channel registers ≡ false
unfolding no_channel
there channel registers l n = rw (le-ltb 7 channel (omega arith), eq-eqb (length registers) 24 n) refl

pub fitting-count : (fs : List Field) (vs : List ℕ) → fitting fs vs ≡ true → length vs ≡ length fs
unfolding fitting
fitting-count [] [] h = refl
fitting-count [] (v ∷ vs) h = let z : ◌≡◌ {A = ℕ} 0 1 = cc in absurd (omega arith)
fitting-count (f ∷ fs) [] h = let z : ◌≡◌ {A = ℕ} 0 1 = cc in absurd (omega arith)
fitting-count (f ∷ fs) (v ∷ vs) h = ap suc (fitting-count fs vs (and_true (in_range f v) (fitting fs vs) h).1)

-- the words where each value fits, and none
pub some_fit : (t : Bool) (ws words : List ℕ) → cond t (Some ws) None ≡ Some words → (t ≡ true) × (words ≡ ws)
some_fit t ws words e = let k = cond_some t ws words e in (k.0, sym k.1)

pub none_unfit : (t : Bool) (ws : List ℕ) → cond t (Some ws) None ≡ None → t ≡ false
none_unfit true ws e = absurd (none-some _ (sym e))
none_unfit false ws e = refl

module _ (fs : List Field) (channel : ℕ) (values registers : List ℕ) where
  pub pack_refused : (no_channel channel registers || not (fitting fs values)) ≡ true
      → packed_by fs channel values registers ≡ record { answer = refused 40 0; left = registers }
  unfolding packed_by
  pack_refused h = rw h refl

  pub no_channel-refused : no_channel channel registers ≡ true → (no_channel channel registers || not (fitting fs values)) ≡ true
  no_channel-refused h = rw h refl

  pub unfit_refused : fitting fs values ≡ false → (no_channel channel registers || not (fitting fs values)) ≡ true
  unfit_refused h = rw (h, or-true (no_channel channel registers)) refl

  pub uncounted_refused : (length values ≡ length fs → ⊥) → (no_channel channel registers || not (fitting fs values)) ≡ true
  uncounted_refused n = go (fitting fs values) refl
    where
      go : (t : Bool) → fitting fs values ≡ t → (no_channel channel registers || not (fitting fs values)) ≡ true
      go true e = absurd (n (fitting-count fs values e))
      go false e = unfit_refused e

  pub pack_done : no_channel channel registers ≡ false → fitting fs values ≡ true
      → packed_by fs channel values registers
      ≡ record { answer = accepted []; left = sets registers (3 * channel) (words_of 3 (packed fs values)) }
  unfolding packed_by
  pack_done h g = rw (h, g) refl

  pub unpack_refused : (no_channel channel registers || not (eqb (length values) (length fs))) ≡ true
      → unpacked_by fs channel registers values ≡ record { answer = refused 40 0; left = values }
  unfolding unpacked_by
  unpack_refused h = rw h refl

  pub unpack_no_channel : no_channel channel registers ≡ true → (no_channel channel registers || not (eqb (length values) (length fs))) ≡ true
  unpack_no_channel h = rw h refl

  pub unpack_uncounted : (length values ≡ length fs → ⊥) → (no_channel channel registers || not (eqb (length values) (length fs))) ≡ true
  unpack_uncounted n = rw (ne_eqb _ _ n, or-true (no_channel channel registers)) refl

  pub unpack_done : no_channel channel registers ≡ false → length values ≡ length fs
      → unpacked_by fs channel registers values
      ≡ record { answer = accepted []; left = unpacked fs (joined (take 3 (drop (3 * channel) registers))) }
  unfolding unpacked_by
  unpack_done h n = rw (h, eq-eqb _ _ n) refl

-- the words of one channel are words
row-each : (registers : List ℕ) (at : ℕ) → ((i : ℕ) → get_or registers i 0 < 2 ^ 32) → Each (2 ^ 32) (take 3 (drop at registers))
row-each registers at h =
    each_below
    (2 ^ 32) _
    (λ i l.
    let s : i < 3 = let t = length-take 3 (drop at registers) in omega arith in
    rw (get_or-take 3 (drop at registers) i 0 s, get_or-drop at registers i 0) (h (at + i)))

-- A table that is not refused: the fields of either direction can be laid.
wide-all : (fs : List Field) → any_miswide fs ≡ false → AllWide fs
unfolding any_miswide
wide-all [] h = AllWide.none
wide-all (f ∷ fs) h =
    let o = or_false (eqb f.width 0 || ltb 64 f.width) (any_miswide fs) h in
    let p = or_false (eqb f.width 0) (ltb 64 f.width) o.0 in
    AllWide.more (record { least = positive f.width p.0; most = ltb-false _ _ p.1 }) (wide-all fs o.1)
  where
    positive : (n : ℕ) → eqb n 0 ≡ false → 1 ≤ n
    positive zero e = let z : ◌≡◌ {A = ℕ} 0 1 = cc in absurd (omega arith)
    positive (suc n) e = omega arith

directed-wide : (d : Direction) (fs : List Field) → AllWide fs → AllWide (directed d fs)
unfolding directed
directed-wide d [] AllWide.none = AllWide.none
directed-wide d (f ∷ fs) (AllWide.more w ws) = go (stands_in d f) (directed-wide d fs ws)
  where
    go : (t : Bool) → AllWide (directed d fs) → AllWide (cond t (f ∷ directed d fs) (directed d fs))
    go true r = AllWide.more w r
    go false r = r

module _ (fs : List Field) (h : overfull fs ≡ false) where
  pub laid-wide : (d : Direction) → AllWide (directed d fs)
  unfolding overfull
  laid-wide d =
      let o = or_false (any_miswide fs || ltb 96 (bits (directed Inputs fs))) (ltb 96 (bits (directed Outputs fs))) h in
      directed-wide d fs (wide-all fs (or_false (any_miswide fs) (ltb 96 (bits (directed Inputs fs))) o.0).0)

  pub laid-bits : (d : Direction) → bits (directed d fs) ≤ 96
  unfolding overfull
  laid-bits Inputs =
      let o = or_false (any_miswide fs || ltb 96 (bits (directed Inputs fs))) (ltb 96 (bits (directed Outputs fs))) h in
      ltb-false _ _ (or_false (any_miswide fs) (ltb 96 (bits (directed Inputs fs))) o.0).1
  laid-bits Outputs =
      let o = or_false (any_miswide fs || ltb 96 (bits (directed Inputs fs))) (ltb 96 (bits (directed Outputs fs))) h in
      ltb-false _ _ o.1

module _ (m : List ℕ) (table : ℕ) (d : Direction) (fs : List Field) (f : fs ≡ directed d (fields_met m table)) where
  pub left_laid : (l : Laid (table_at m table)) → fs ≡ directed d l.fs
  left_laid l = rw (f, laid-met m table l) refl

  pub packable : (i o n : ℕ) → Counts (table_at m table) i o → n ≡ chosen d i o → Packable fs n
  packable i o n k e =
      let s = left_laid k.laid in
      let b = laid-bits k.laid.fs k.laid.fits d in
      record {
        count = rw s (sym (e ∙ chosen_is d));
        wide = rw s (laid-wide k.laid.fs k.laid.fits d);
        fits = rw s (omega arith);
      }
    where
      chosen_is : (d : Direction) → chosen d i o ≡ length (directed d k.laid.fs)
      chosen_is Inputs = k.inputs
      chosen_is Outputs = k.outputs

  -- a call by what the count answers
  module _ (lent : List ℕ) (call : List Field → Outcome) where
    pub called-laid : Laid (table_at m table) → called_on (checked_at m table) d lent call ≡ call fs
    unfolding checked_at called_on
    called-laid l = rw (laid-checked (table_at m table) l, left_laid l) refl

-- a call on a table that is refused
module _ (m : List ℕ) (table : ℕ) (d : Direction) (lent : List ℕ) (call : List Field → Outcome) where
  pub called-refused : (n p : ℕ) → refused n p ≡ counted (checked_at m table)
      → called_on (checked_at m table) d lent call ≡ record { answer = refused n p; left = lent }
  unfolding called_on
  called-refused n p e = let r = refused-checked (checked_at m table) n p e in rw (r.0, r.1) refl

-- the registers with the channel's row set and put back
pub put_back : (fs : List Field) (channel : ℕ) (values registers words : List ℕ) (all next : List (List ℕ)) (after : List ℕ)
    → no_channel channel registers ≡ false → words ≡ words_of 3 (packed fs values) → all ≡ rows_from 8 0 registers
    → next ≡ set all channel words → after ≡ flat next → after ≡ sets registers (3 * channel) (words_of 3 (packed fs values))
put_back fs channel values registers words all next after h w a n e =
    let t = channel_there channel registers h in
    rw (e, n, a, w) (channel_set registers channel _ t.1 t.0 (words-length 3 (packed fs values)))

-- the channel's row among the rows taken from the words lent
module _ (channel : ℕ) (registers : List ℕ) (all : List (List ℕ)) (h : no_channel channel registers ≡ false) (e : all ≡ rows_from 8 0 registers) where
  row-taken : get_or all channel [] ≡ take 3 (drop (3 * channel) registers)
  row-taken =
      let z : 0 + 3 * channel ≡ 3 * channel = omega arith in
      rw (e, row_at registers 8 0 channel (channel_there channel registers h).0, z) refl

  pub row_words : ((i : ℕ) → get_or registers i 0 < 2 ^ 32) → Each (2 ^ 32) (get_or all channel [])
  row_words b = rw row-taken (row-each registers (3 * channel) b)

  pub row_read : (fs : List Field) (after : List ℕ) → after ≡ unpacked fs (joined (get_or all channel []))
      → after ≡ unpacked fs (joined (take 3 (drop (3 * channel) registers)))
  row_read fs after r = rw row-taken at r
