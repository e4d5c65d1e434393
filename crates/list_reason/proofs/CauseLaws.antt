-- Laws of causes: a number's causes are those of its rule, so that one of them holds wherever the rule does.
use Prim.Native.Nat.{ℕ, zero, suc, ◌+◌, ◌%◌, ◌≤◌}
use mathlib.Core.Path.{◌≡◌, refl, sym, ◌∙◌}
use mathlib.Core.List.{List}
use mathlib.Core.Bool.{Bool, true, false, not, ◌||◌, ◌&&◌, cond}
use native.Mathlib.Omega.{arith}
use lib.Dec.{eqb, ltb}
use lib.ListN.{length, get_or}
use borrow.Author.Tests.{ltb-true, lt-ltb, eqb-true, eqb-false, ne_eqb}
use Rattle.lbp16.specs.Space.{space_of, is_absent, row}
use Rattle.packet.specs.Step.{Step, is_write, is_status}
use Rattle.packet.specs.Rules.{first, misaligned, past_end, barred}
use Rattle.packet.proofs.StepLaws.{pick-plain, row_plain}
use Rattle.packet.proofs.UnlockLaws.{status-number}
use Rattle.cue.specs.Records.{record_step, record_space, record_kind, record_bytes, record_refusals, record_at, bad_element, reserved, upper_half}
use Rattle.cue.specs.Records.{mark_at, read_mark, write_mark, most_records}
use Rattle.cue.proofs.PackingLaws.{record_bytes_le}
use Rattle.cue.proofs.ReadingLaws.{write-of}
use Rattle.list_reason.specs.ListReason.{mark_causes, element_causes, element_named, value_causes, causes_of}

-- rules 22 and 24
abbrev pub rule22 : List ℕ → Bool
rule22 rest = (not (eqb (mark_at rest) read_mark) && not (eqb (mark_at rest) write_mark)) || ltb (length rest) (record_bytes (record_kind rest))

abbrev pub rule24 : List ℕ → Bool
rule24 rest = not (eqb (get_or rest 3 0) 0) || (is_write (record_kind rest) && not (eqb (upper_half rest) 0))

-- the rule that a record's number is of holds
module _ (index : ℕ) (rest : List ℕ) where
  pub holds_22 : first (record_refusals index rest) ≡ 22 → rule22 rest ≡ true
  unfolding first record_refusals
  holds_22 = go (eqb index most_records) (rule22 rest) (bad_element (record_step rest)) (rule24 rest)
    where
      go : (a b c d : Bool) → ◌≡◌ {A = ℕ} (cond a 21 (cond b 22 (cond c 23 (cond d 24 0)))) 22 → b ≡ true
      go true b c d e = absurd (omega arith)
      go false true c d e = refl
      go false false true d e = absurd (omega arith)
      go false false false true e = absurd (omega arith)
      go false false false false e = absurd (omega arith)

  pub holds_23 : first (record_refusals index rest) ≡ 23 → bad_element (record_step rest) ≡ true
  unfolding first record_refusals
  holds_23 = go (eqb index most_records) (rule22 rest) (bad_element (record_step rest)) (rule24 rest)
    where
      go : (a b c d : Bool) → ◌≡◌ {A = ℕ} (cond a 21 (cond b 22 (cond c 23 (cond d 24 0)))) 23 → c ≡ true
      go true b c d e = absurd (omega arith)
      go false true c d e = absurd (omega arith)
      go false false true d e = refl
      go false false false true e = absurd (omega arith)
      go false false false false e = absurd (omega arith)

  pub holds_24 : first (record_refusals index rest) ≡ 24 → rule24 rest ≡ true
  unfolding first record_refusals
  holds_24 = go (eqb index most_records) (rule22 rest) (bad_element (record_step rest)) (rule24 rest)
    where
      go : (a b c d : Bool) → ◌≡◌ {A = ℕ} (cond a 21 (cond b 22 (cond c 23 (cond d 24 0)))) 24 → d ≡ true
      go true b c d e = absurd (omega arith)
      go false true c d e = absurd (omega arith)
      go false false true d e = absurd (omega arith)
      go false false false true e = refl
      go false false false false e = absurd (omega arith)

-- Of 22: a byte alone is a record that is cut.
pub mark_causes_lem : (rest : List ℕ) → rule22 rest ≡ true → 1 ≤ first (mark_causes rest)
unfolding first mark_causes
mark_causes_lem rest =
    go (ltb (length rest) 2) (eqb (mark_at rest) read_mark) (eqb (mark_at rest) write_mark) (ltb (length rest) n)
    (λ e. let l = ltb-true (length rest) 2 e in lt-ltb (length rest) n (omega (arith, record_bytes_le (record_kind rest))))
  where
    n : ℕ
    n = record_bytes (record_kind rest)

    some : (b : Bool) → 1 ≤ cond b 1 2
    some true = omega arith
    some false = omega arith

    go : (s r w c : Bool) → (s ≡ true → c ≡ true) → ((not r && not w) || c) ≡ true
        → 1 ≤ cond (not s && not r && not w) 1 (cond c 2 0)
    go s r w true short e = some (not s && not r && not w)
    go false false false false short e = omega arith
    go true false false false short e = let z : ◌≡◌ {A = ℕ} 0 1 = cc (short refl) in absurd (omega arith)
    go s true w false short e = let z : ◌≡◌ {A = ℕ} 0 1 = cc in absurd (omega arith)
    go s false true false short e = let z : ◌≡◌ {A = ℕ} 0 1 = cc in absurd (omega arith)

-- Of 23: together they are the rule.
pub element_causes_lem : (x : Step) → bad_element x ≡ not (eqb (first (element_causes x)) 0)
unfolding first element_causes bad_element reserved
element_causes_lem x =
    go (is_absent x.space) (misaligned (row x.space) x.address) (past_end x) (barred x) (eqb x.address 0x1A)
    (eqb x.address 0x0A)
    (is_status x.space)
  where
    go : (a b c d u v s : Bool)
        → (a || b || c || d || ((u || v) && s))
        ≡ not (eqb (cond a 1 (cond b 2 (cond c 3 (cond d 4 (cond (u && s) 5 (cond (v && s) 6 0)))))) 0)
    go true b c d u v s = refl
    go false true c d u v s = refl
    go false false true d u v s = refl
    go false false false true u v s = refl
    go false false false false true v true = refl
    go false false false false true true false = refl
    go false false false false true false false = refl
    go false false false false false true true = refl
    go false false false false false true false = refl
    go false false false false false false s = refl

pub element-some : (x : Step) → bad_element x ≡ true → 1 ≤ first (element_causes x)
element-some x e = go (first (element_causes x)) (sym (element_causes_lem x) ∙ e)
  where
    go : (n : ℕ) → not (eqb n 0) ≡ true → 1 ≤ n
    go zero e = let z : ◌≡◌ {A = ℕ} 0 1 = cc in absurd (omega arith)
    go (suc n) e = omega arith

-- and as the code tests them
pub element-first : (w : Bool) (n a : ℕ)
    → first (element_causes (element_named w n a))
    ≡ (let s = row (space_of n) in
    cond (is_absent (space_of n)) 1
    (cond (not (eqb (a % s.element) 0)) 2
    (cond (ltb s.bytes (a + s.element)) 3
    (cond (ltb a s.read_only && w) 4
    (cond (eqb a 0x1A && eqb n 6) 5 (cond (eqb a 0x0A && eqb n 6) 6 0))))))
unfolding first element_causes misaligned past_end barred
element-first w n a = rw (row_plain _ _ (pick-plain w), write-of, status-number) refl

-- Of a record they are those of what it names.
pub record_first : (rest : List ℕ)
    → first (element_causes (record_step rest)) ≡ (let r = record_at rest in first (element_causes (element_named r.write r.space r.address)))
unfolding first element_causes record_step record_space record_kind record_at past_end barred
record_first rest = refl

-- Of 24: where the spare byte is good, the value is too wide.
module _ (index : ℕ) (rest : List ℕ) (e : first (record_refusals index rest) ≡ 24) where
  pub value-spare : (get_or rest 3 0 ≡ 0 → ⊥) → 1 ≡ first (value_causes rest)
  unfolding first value_causes
  value-spare n = rw (ne_eqb (get_or rest 3 0) 0 n) refl

  pub value-wide : get_or rest 3 0 ≡ 0 → 2 ≡ first (value_causes rest)
  unfolding first value_causes
  value-wide z = rw z (go (is_write (record_kind rest) && not (eqb (upper_half rest) 0)) (rw z at (holds_24 index rest e)))
    where
      go : (b : Bool) → b ≡ true → ◌≡◌ {A = ℕ} 2 (cond b 2 0)
      go true e = refl
      go false e = let z : ◌≡◌ {A = ℕ} 0 1 = cc in absurd (omega arith)

pub value-some : (index : ℕ) (rest : List ℕ) → first (record_refusals index rest) ≡ 24 → 1 ≤ first (value_causes rest)
value-some index rest e = go (eqb (get_or rest 3 0) 0) refl
  where
    go : (b : Bool) → eqb (get_or rest 3 0) 0 ≡ b → 1 ≤ first (value_causes rest)
    go true q = omega (arith, value-wide index rest e (eqb-true _ _ q))
    go false q = omega (arith, value-spare index rest e (eqb-false _ _ q))

-- a number's causes
pub causes_22 : (n : ℕ) (rest : List ℕ) → n ≡ 22 → first (causes_of n rest) ≡ first (mark_causes rest)
unfolding causes_of
causes_22 n rest e = rw e refl

pub causes_23 : (n : ℕ) (rest : List ℕ) → n ≡ 23 → first (causes_of n rest) ≡ first (element_causes (record_step rest))
unfolding causes_of
causes_23 n rest e = rw e refl

pub causes_24 : (n : ℕ) (rest : List ℕ) → n ≡ 24 → first (causes_of n rest) ≡ first (value_causes rest)
unfolding causes_of
causes_24 n rest e = rw e refl

pub causes_none : (n : ℕ) (rest : List ℕ) → (n ≡ 22 → ⊥) → (n ≡ 23 → ⊥) → (n ≡ 24 → ⊥) → first (causes_of n rest) ≡ 0
unfolding causes_of first
causes_none n rest a b c = rw (ne_eqb n 22 a, ne_eqb n 23 b, ne_eqb n 24 c) refl

-- Every refusal from 22 on has a cause.
pub some_cause : (index n : ℕ) (rest : List ℕ) → first (record_refusals index rest) ≡ n → 22 ≤ n → n ≤ 24 → 1 ≤ first (causes_of n rest)
some_cause index n rest e l h = go (eqb n 22) refl (eqb n 23) refl
  where
    go : (a : Bool) → eqb n 22 ≡ a → (b : Bool) → eqb n 23 ≡ b → 1 ≤ first (causes_of n rest)
    go true p b q =
        let z = eqb-true n 22 p in rw (causes_22 n rest z) (mark_causes_lem rest (holds_22 index rest (e ∙ z)))
    go false p true q =
        let z = eqb-true n 23 q in rw (causes_23 n rest z) (element-some (record_step rest) (holds_23 index rest (e ∙ z)))
    go false p false q =
        let u = eqb-false n 22 p in
        let v = eqb-false n 23 q in
        let z : n ≡ 24 = omega arith in
        rw (causes_24 n rest z) (value-some index rest (e ∙ z))
