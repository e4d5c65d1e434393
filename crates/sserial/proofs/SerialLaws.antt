-- What order 1 claims of tables, packing and unpacking, over all card memories.
use Prim.Native.Nat.{ℕ, suc, ◌+◌, ◌*◌, ◌/◌, ◌%◌, ◌^◌, ◌≤◌, ◌<◌}
use mathlib.Core.Path.{◌≡◌, refl, ap, ◌∙◌}
use mathlib.Core.Bool.{Bool, true, false, not, ◌||◌, cond}
use mathlib.Core.List.{List, [], ◌∷◌}
use mathlib.Core.Logic.{◌⊎◌, ⊎_elim, inl, inr}
use native.Mathlib.Omega.{arith}
use native.Mathlib.Nat.{lt_of_lt_of_le}
use lib.ListN.{length, get_or, take, drop, set}
use lib.Seq.{sets, length-sets, get_or-set_other}
use lib.Pow.{pow_mono}
use lib.Dec.{eqb}
use Rattle.lbp16.specs.Answer.{accepted, refused}
use Rattle.lbp16.proofs.ListLaws.{slice_of_sets}
use borrow.Author.Tests.{eqb-true}
use Rattle.sserial.specs.Table.{Table, unreadable, fields, Checked, laid, checked, checked_at, table_at, directed, bits, overfull}
use Rattle.sserial.specs.Table as table
use Rattle.sserial.specs.Layout.{joined, words_of, packed, unpacked, fitting}
use Rattle.sserial.specs.Calls.{no_channel, packed_by, packed_to, Outcome, unpacked_by, unpacked_to, called_on, counted, indexed}
use Rattle.sserial.specs.Inside.{Each, AllWide}
use Rattle.sserial.specs.declared.table.Field.{Field}
use Rattle.sserial.specs.declared.table.Direction.{Direction}
use Rattle.sserial.proofs.LayoutLaws.{pack_back, unpack_back, unpacked-fits, packed-below, words-length, joined_words}
use Rattle.sserial.proofs.CallLaws.{channel_there, there, fitting-count, pack_done, unpack_done, laid-wide, laid-bits}

-- 41 exactly if the table is unreadable, 42 exactly if it is read and its fields do not fit
pub data Refused (t : Table) : ℕ → Type 0 where
  by_41 : t ≡ unreadable → Refused t 41
  by_42 : (fs : List Field) → t ≡ fields fs → overfull fs ≡ true → Refused t 42

pub refused-table : (t : Table) (n : ℕ) → checked t ≡ table.refused n → Refused t n
unfolding checked
refused-table unreadable n e = let k : 41 ≡ n = cc in rw (← k) (Refused.by_41 refl)
refused-table (fields fs) n e = go (overfull fs) refl e
  where
    go : (b : Bool) → overfull fs ≡ b → cond b (table.refused 42) (laid fs) ≡ table.refused n → Refused (fields fs) n
    go true d e = let k : 42 ≡ n = cc in rw (← k) (Refused.by_42 fs refl d)
    go false d e = let z : ◌≡◌ {A = ℕ} 0 1 = cc in absurd (omega arith)

pub table-refused : (t : Table) (n : ℕ) → Refused t n → checked t ≡ table.refused n
unfolding checked
table-refused t n (Refused.by_41 e) = rw e refl
table-refused t n (Refused.by_42 fs e o) = rw (e, o) refl

-- and then every call is refused with that number
module _ (n : ℕ) (d : Direction) (channel index : ℕ) (values registers : List ℕ) where
  pub refused_calls : (counted (table.refused n) ≡ refused n 0)
      × (indexed (table.refused n) index ≡ refused n 0)
      × ((packed_to (table.refused n) d channel values registers).answer ≡ refused n 0)
      × ((unpacked_to (table.refused n) d channel registers values).answer ≡ refused n 0)
  unfolding counted indexed packed_to unpacked_to called_on
  refused_calls = (refl, refl, refl, refl)

-- a table that is not refused
laid-fits : (t : Table) (fs : List Field) → checked t ≡ laid fs → overfull fs ≡ false
unfolding checked
laid-fits unreadable fs e = let z : ◌≡◌ {A = ℕ} 0 1 = cc in absurd (omega arith)
laid-fits (fields gs) fs e = go (overfull gs) refl e
  where
    go : (b : Bool) → overfull gs ≡ b → cond b (table.refused 42) (laid gs) ≡ laid fs → overfull fs ≡ false
    go true d e = let z : ◌≡◌ {A = ℕ} 0 1 = cc in absurd (omega arith)
    go false d e = let k : gs ≡ fs = cc in rw k at d

fewer : (fs : List Field) → AllWide fs → length fs ≤ bits fs
unfolding bits
fewer [] AllWide.none = omega arith
fewer (f ∷ fs) (AllWide.more w ws) = let h = fewer fs ws in let l = w.least in omega arith

module _ (m : List ℕ) (at : ℕ) (fs : List Field) (h : checked_at m at ≡ laid fs) (d : Direction) where
  fits : overfull fs ≡ false
  unfolding checked_at
  fits = laid-fits (table_at m at) fs h

  -- at most 96 fields each way
  pub few-fields : length (directed d fs) ≤ 96
  few-fields = let b = laid-bits fs fits d in let n = fewer (directed d fs) (laid-wide fs fits d) in omega arith

-- what an accepted call of packing or unpacking says
accepted_pack : (fs : List Field) (channel : ℕ) (values registers : List ℕ)
    → (packed_by fs channel values registers).answer ≡ accepted []
    → (no_channel channel registers ≡ false) × (fitting fs values ≡ true)
unfolding packed_by
accepted_pack fs channel values registers = go (no_channel channel registers) (fitting fs values) refl refl
  where
    go : (a b : Bool) → no_channel channel registers ≡ a → fitting fs values ≡ b
        → (cond {A = Outcome} (a || not b) (record { answer = refused 40 0; left = registers })
        (record { answer = accepted []; left = sets registers (3 * channel) (words_of 3 (packed fs values)) })
        ).answer
        ≡ accepted []
        → (no_channel channel registers ≡ false) × (fitting fs values ≡ true)
    go false true e k h = (e, k)
    go false false e k h = let z : ◌≡◌ {A = ℕ} 0 1 = cc in absurd (omega arith)
    go true b e k h = let z : ◌≡◌ {A = ℕ} 0 1 = cc in absurd (omega arith)

accepted_unpack : (fs : List Field) (channel : ℕ) (registers values : List ℕ)
    → (unpacked_by fs channel registers values).answer ≡ accepted []
    → (no_channel channel registers ≡ false) × (length values ≡ length fs)
unfolding unpacked_by
accepted_unpack fs channel registers values = go (no_channel channel registers) (eqb (length values) (length fs)) refl refl
  where
    go : (a b : Bool) → no_channel channel registers ≡ a → eqb (length values) (length fs) ≡ b
        → (cond {A = Outcome} (a || not b) (record { answer = refused 40 0; left = values })
        (record { answer = accepted []; left = unpacked fs (joined (take 3 (drop (3 * channel) registers))) })
        ).answer
        ≡ accepted []
        → (no_channel channel registers ≡ false) × (length values ≡ length fs)
    go false true e k h = (e, eqb-true _ _ k)
    go false false e k h = let z : ◌≡◌ {A = ℕ} 0 1 = cc in absurd (omega arith)
    go true b e k h = let z : ◌≡◌ {A = ℕ} 0 1 = cc in absurd (omega arith)

-- words put at a place change no others
set_elsewhere : (l vs : List ℕ) (at j : ℕ) → (j < at) ⊎ (at + length vs ≤ j) → get_or (sets l at vs) j 0 ≡ get_or l j 0
set_elsewhere l [] at j h = refl
set_elsewhere l (v ∷ vs) at j h =
    set_elsewhere (set l at v) vs (suc at) j (⊎_elim (λ b. inl (omega arith)) (λ b. inr (omega arith)) h)
    ∙ get_or-set_other l at j v 0 (λ e. ⊎_elim (λ b. omega arith) (λ b. omega arith) h)

unpacked-count : (fs : List Field) (n : ℕ) → length (unpacked fs n) ≡ length fs
unfolding unpacked
unpacked-count [] n = refl
unpacked-count (f ∷ fs) n = ap suc (unpacked-count fs (n / 2 ^ f.width))

no_channel_sets : (channel at : ℕ) (registers vs : List ℕ) → no_channel channel (sets registers at vs) ≡ no_channel channel registers
unfolding no_channel
no_channel_sets channel at registers vs = rw (length-sets registers at vs) refl

-- the same of the fields of one direction that fit
module _ (fs : List Field) (wide : AllWide fs) (few : bits fs ≤ 96) (channel : ℕ) where
  fields_back : (values registers room : List ℕ) → Each (2 ^ 64) values → length room ≡ length values
      → (packed_by fs channel values registers).answer ≡ accepted []
      → unpacked_by fs channel (packed_by fs channel values registers).left room ≡ record { answer = accepted []; left = values }
  fields_back values registers room each long h =
      let a = accepted_pack fs channel values registers h in
      let t = channel_there channel registers a.0 in
      let c = fitting-count fs values a.1 in
      let w : List ℕ = words_of 3 (packed fs values) in
      let n : length w ≡ 3 = words-length 3 (packed fs values) in
      let r : take 3 (drop (3 * channel) (sets registers (3 * channel) w)) ≡ w = rw n at (slice_of_sets registers (3 * channel) w (omega arith)) in
      let b : packed fs values < 2 ^ (3 * 32) = lt_of_lt_of_le (packed-below fs values) (pow_mono few) in
      rw (
        pack_done fs channel values registers a.0 a.1,
        unpack_done fs channel room
            (sets registers (3 * channel) w)
            (no_channel_sets channel (3 * channel) registers w ∙ a.0)
            (omega arith),
        r,
        joined_words 3 (packed fs values) b,
        pack_back fs values wide each a.1,
      )
      refl

  registers-back : (registers room other : List ℕ) → length other ≡ 24
      → (unpacked_by fs channel registers room).answer ≡ accepted []
      → packed_by fs channel (unpacked_by fs channel registers room).left other
      ≡ record {
        answer = accepted [];
        left = sets other (3 * channel) (words_of 3 (joined (take 3 (drop (3 * channel) registers)) % 2 ^ bits fs));
      }
  registers-back registers room other long h =
      let a = accepted_unpack fs channel registers room h in
      let t = channel_there channel registers a.0 in
      let n : ℕ = joined (take 3 (drop (3 * channel) registers)) in
      rw (
        unpack_done fs channel room registers a.0 a.1,
        pack_done fs channel (unpacked fs n) other (same-room a.0) (unpacked-fits fs n wide),
        unpack_back fs n wide,
      )
      refl
    where
      same-room : no_channel channel registers ≡ false → no_channel channel other ≡ false
      same-room e = let t = channel_there channel registers e in there channel other t.0 long

module _ (m : List ℕ) (at : ℕ) (d : Direction) (channel : ℕ) where
  -- Packing then unpacking gives each value back.
  pub values-back : (values registers room : List ℕ) → Each (2 ^ 64) values → length room ≡ length values
      → (packed_to (checked_at m at) d channel values registers).answer ≡ accepted []
      → unpacked_to (checked_at m at) d channel (packed_to (checked_at m at) d channel values registers).left room
      ≡ record { answer = accepted []; left = values }
  unfolding packed_to unpacked_to called_on
  values-back values registers room each long = go (checked_at m at) refl
    where
      go : (k : Checked) → checked_at m at ≡ k → (packed_to k d channel values registers).answer ≡ accepted []
          → unpacked_to k d channel (packed_to k d channel values registers).left room
          ≡ record { answer = accepted []; left = values }
      go (table.refused n) e h = let z : ◌≡◌ {A = ℕ} 0 1 = cc in absurd (omega arith)
      go (laid fs) e h =
          fields_back (directed d fs) (laid-wide fs (fits m at fs e d) d) (laid-bits fs (fits m at fs e d) d) channel values registers room each long h

  -- Unpacking then packing gives the used bits back, and 0 for the unused.
  pub bits-kept : (fs : List Field) (registers room other : List ℕ) → checked_at m at ≡ laid fs → length other ≡ 24
      → (unpacked_to (checked_at m at) d channel registers room).answer ≡ accepted []
      → packed_to (checked_at m at) d channel (unpacked_to (checked_at m at) d channel registers room).left other
      ≡ record {
        answer = accepted [];
        left = sets other (3 * channel) (words_of 3 (joined (take 3 (drop (3 * channel) registers)) % 2 ^ bits (directed d fs)));
      }
  unfolding packed_to unpacked_to called_on
  bits-kept fs registers room other e long h =
      rw e
      (registers-back (directed d fs) (laid-wide fs (fits m at fs e d) d) (laid-bits fs (fits m at fs e d) d) channel registers room other long (rw e at h))

-- A refusal changes nothing, and packing no word of another channel.
kept_by : (t : Bool) (n p : ℕ) (kept new : List ℕ)
    → (cond {A = Outcome} t (record { answer = refused 40 0; left = kept }) (record { answer = accepted []; left = new })).answer ≡ refused n p
    → (cond {A = Outcome} t (record { answer = refused 40 0; left = kept }) (record { answer = accepted []; left = new })).left ≡ kept
kept_by true n p kept new h = refl
kept_by false n p kept new h = let z : ◌≡◌ {A = ℕ} 0 1 = cc in absurd (omega arith)

module _ (k : Checked) (d : Direction) (channel : ℕ) (values registers : List ℕ) where
  pub pack_refusal_changes_nothing : (n p : ℕ) → (packed_to k d channel values registers).answer ≡ refused n p
      → (packed_to k d channel values registers).left ≡ registers
  unfolding packed_to packed_by called_on
  pack_refusal_changes_nothing n p = go k
    where
      go : (k : Checked) → (packed_to k d channel values registers).answer ≡ refused n p
          → (packed_to k d channel values registers).left ≡ registers
      go (table.refused m) h = refl
      go (laid fs) h = kept_by (no_channel channel registers || not (fitting (directed d fs) values)) n p _ _ h

  pub unpack_refusal_changes_nothing : (n p : ℕ) → (unpacked_to k d channel registers values).answer ≡ refused n p
      → (unpacked_to k d channel registers values).left ≡ values
  unfolding unpacked_to unpacked_by called_on
  unpack_refusal_changes_nothing n p = go k
    where
      go : (k : Checked) → (unpacked_to k d channel registers values).answer ≡ refused n p
          → (unpacked_to k d channel registers values).left ≡ values
      go (table.refused m) h = refl
      go (laid fs) h = kept_by (no_channel channel registers || not (eqb (length values) (length (directed d fs)))) n p _ _ h

  pub other-words : (j : ℕ) → (j < 3 * channel) ⊎ (3 * channel + 3 ≤ j)
      → get_or (packed_to k d channel values registers).left j 0 ≡ get_or registers j 0
  unfolding packed_to packed_by called_on
  other-words j h = go k
    where
      put : (t : Bool) (n : ℕ)
          → get_or
          (cond
          {A = Outcome}
          t
          (record { answer = refused 40 0; left = registers })
          (record { answer = accepted []; left = sets registers (3 * channel) (words_of 3 n) })).left
          j
          0
          ≡ get_or registers j 0
      put true n = refl
      put false n = set_elsewhere registers (words_of 3 n) (3 * channel) j (rw (words-length 3 n) h)

      go : (k : Checked) → get_or (packed_to k d channel values registers).left j 0 ≡ get_or registers j 0
      go (table.refused m) = refl
      go (laid fs) = put (no_channel channel registers || not (fitting (directed d fs) values)) (packed (directed d fs) values)
