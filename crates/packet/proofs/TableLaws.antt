-- The refusal table as the code goes down it, a test for each rule: where the tests before fail, the number is that of the rules after them.
use Prim.Native.Nat.{ℕ, ◌+◌, ◌*◌, ◌≤◌, ◌<◌}
use borrow.Author.Tests.{eq-eqb, ne_eqb, le-ltb, lt-ltb}
use lib.Dec.{ltb}
use lib.ListN.{length, drop}
use mathlib.Core.Bool.{Bool, true, false, not, ◌&&◌}
use mathlib.Core.List.{List, []}
use mathlib.Core.Logic.{◌≢◌}
use mathlib.Core.Path.{◌≡◌, refl, sym, ap, ◌∙◌}
use Rattle.lbp16.specs.Space.{space_of, is_absent}
use Rattle.lbp16.specs.declared.pointer.Pointers.{Pointers}
use Rattle.lbp16.specs.declared.space.Row.{Row}
use Rattle.lbp16.specs.declared.word.Fields.{Fields}
use Rattle.packet.specs.Command.{limit, kind_of, row_of, header_bytes, command_bytes, address_used, steps_at, out_of_place, refusals}
use Rattle.packet.specs.Inside.{ForRegisters}
use Rattle.packet.specs.Reach.{reach_from, reach_at}
use Rattle.packet.specs.Rules.{Rule, first, any_step, barred}
use Rattle.packet.specs.Step.{answered}
use Rattle.packet.specs.declared.command.Reach.{Reach}
use Rattle.packet.proofs.ReachLaws.{register_rules, registers-first}
use Rattle.packet.proofs.RuleLaws.{first-here, first_past, first-of_none}

-- the test of the address used says b
abbrev Tells : (Pointers → List ℕ → Bool) → Fields → ℕ → Bool → Type 0
Tells test f used b = (p : Pointers) (rest : List ℕ) → used ≡ address_used p f rest → b ≡ test p rest

-- A command whose header is whole, and its reach.
module _ (p : Pointers) (unlocked : Bool) (reply : ℕ) (f : Fields) (rest : List ℕ) (r : Reach) (header : header_bytes f ≤ length rest)
    (e : r ≡ reach_at p f rest) where
  -- the table's number is that of the rules after the first k of these
  abbrev Past : List Rule → ℕ → Type 0
  Past rules k = first (refusals p unlocked reply f rest) ≡ first (drop k rules)

  -- the address used
  used-is : r.used ≡ address_used p f rest
  unfolding reach_from
  used-is = ap (λ (t : Reach). t.used) e

  -- rule 11 from the reach
  whole-is : (b : Bool) → ltb (length rest) r.bytes ≡ b → ltb (length rest) (command_bytes f) ≡ b
  unfolding reach_from
  whole-is b h = rw (← ap (λ (t : Reach). t.bytes) e) h

  -- rule 12 from the reach
  fits-is : (b : Bool) → b ≡ ltb limit (reply + r.answered) → ltb limit (reply + f.count * answered (kind_of f) (space_of f.space)) ≡ b
  unfolding reach_from
  fits-is b h = rw (← ap (λ (t : Reach). t.answered) e) (sym h)

  -- All rules, as `area_rule` goes down them: each module adds what one more test says.
  module _ (row : Row) (of : row ≡ row_of f) where
    -- 3: its header is whole
    past-header : Past (refusals p unlocked reply f rest) 1
    unfolding refusals
    past-header = first_past _ _ _ refl (le-ltb _ _ header)

    -- 4: a write to an info area
    pub area-4 : (f.info && f.write) ≡ true → 4 ≡ first (refusals p unlocked reply f rest)
    unfolding refusals
    area-4 t = first-here _ _ _ past-header t

    module _ (served : (f.info && f.write) ≡ false) where
      past-served : Past (refusals p unlocked reply f rest) 2
      unfolding refusals
      past-served = first_past _ _ _ past-header served

      -- 5: no such space
      pub area-5 : true ≡ is_absent (space_of f.space) → 5 ≡ first (refusals p unlocked reply f rest)
      unfolding refusals
      area-5 t = first-here _ _ _ past-served (sym t)

      module _ (present : false ≡ is_absent (space_of f.space)) where
        past-present : Past (refusals p unlocked reply f rest) 3
        unfolding refusals
        past-present = first_past _ _ _ past-served (sym present)

        -- 6: not the size of the space
        pub area-6 : f.size ≢ row.size → 6 ≡ first (refusals p unlocked reply f rest)
        unfolding refusals
        area-6 t = first-here _ _ _ past-present (rw (← of, ne_eqb _ _ t) refl)

        module _ (sized : f.size ≡ row.size) where
          past-sized : Past (refusals p unlocked reply f rest) 4
          unfolding refusals
          past-sized = first_past _ _ _ past-present (rw (← of, eq-eqb _ _ sized) refl)

          -- 7: no elements
          pub area-7 : f.count ≡ 0 → 7 ≡ first (refusals p unlocked reply f rest)
          unfolding refusals
          area-7 t = first-here _ _ _ past-sized (eq-eqb _ _ t)

          module _ (some : f.count ≢ 0) where
            past-some : Past (refusals p unlocked reply f rest) 5
            unfolding refusals
            past-some = first_past _ _ _ past-sized (ne_eqb _ _ some)

            -- 8: out of place
            pub area-8 : Tells (λ q. out_of_place q f) f r.used true → 8 ≡ first (refusals p unlocked reply f rest)
            unfolding refusals
            area-8 t = first-here _ _ _ past-some (sym (t p rest used-is))

            module _ (placed : Tells (λ q. out_of_place q f) f r.used false) where
              past-placed : Past (refusals p unlocked reply f rest) 6
              unfolding refusals
              past-placed = first_past _ _ _ past-some (sym (placed p rest used-is))

              -- 9: read-only
              pub area-9 : Tells (λ q bs. any_step barred (steps_at q f bs)) f r.used true → 9 ≡ first (refusals p unlocked reply f rest)
              unfolding refusals
              area-9 t = first-here _ _ _ past-placed (sym (t p rest used-is))

              module _ (allowed : Tells (λ q bs. any_step barred (steps_at q f bs)) f r.used false) where
                past-allowed : Past (refusals p unlocked reply f rest) 7
                unfolding refusals
                past-allowed = first_past _ _ _ past-placed (sym (allowed p rest used-is))

                -- 10: locked
                pub area-10 : (f.write && row.locked && not unlocked) ≡ true → 10 ≡ first (refusals p unlocked reply f rest)
                unfolding refusals
                area-10 t = first-here _ _ _ past-allowed (rw (← of) t)

                module _ (unlocks : (f.write && row.locked && not unlocked) ≡ false) where
                  past-unlocks : Past (refusals p unlocked reply f rest) 8
                  unfolding refusals
                  past-unlocks = first_past _ _ _ past-allowed (rw (← of) unlocks)

                  -- 11: cut off
                  pub area-11 : length rest < r.bytes → 11 ≡ first (refusals p unlocked reply f rest)
                  unfolding refusals
                  area-11 t = first-here _ _ _ past-unlocks (whole-is _ (lt-ltb _ _ t))

                  module _ (whole : r.bytes ≤ length rest) where
                    past-whole : Past (refusals p unlocked reply f rest) 9
                    unfolding refusals
                    past-whole = first_past _ _ _ past-unlocks (whole-is _ (le-ltb _ _ whole))

                    -- 12: too long an answer
                    pub area-12 : true ≡ ltb limit (reply + r.answered) → 12 ≡ first (refusals p unlocked reply f rest)
                    unfolding refusals
                    area-12 t = first-here _ _ _ past-whole (fits-is _ t)

                    module _ (fits : false ≡ ltb limit (reply + r.answered)) where
                      past-fits : Past (refusals p unlocked reply f rest) 10
                      unfolding refusals
                      past-fits = first_past _ _ _ past-whole (fits-is _ fits)

                      -- none
                      pub area-none : 0 ≡ first (refusals p unlocked reply f rest)
                      unfolding refusals
                      area-none = sym (past-fits ∙ first-of_none [] tt)

  -- The four rules that `register_rule` asks.
  module _ (registers : ForRegisters f) where
    -- the table's number is that of these four
    asked-none : Past (register_rules (refusals p unlocked reply f rest)) 0
    asked-none = registers-first f registers p unlocked reply rest header

    -- 7: no elements
    pub register-7 : f.count ≡ 0 → 7 ≡ first (refusals p unlocked reply f rest)
    unfolding refusals
    register-7 t = first-here _ _ _ asked-none (eq-eqb _ _ t)

    module _ (some : f.count ≢ 0) where
      asked-some : Past (register_rules (refusals p unlocked reply f rest)) 1
      unfolding refusals
      asked-some = first_past _ _ _ asked-none (ne_eqb _ _ some)

      -- 8: out of place
      pub register-8 : Tells (λ q. out_of_place q f) f r.used true → 8 ≡ first (refusals p unlocked reply f rest)
      unfolding refusals
      register-8 t = first-here _ _ _ asked-some (sym (t p rest used-is))

      module _ (placed : Tells (λ q. out_of_place q f) f r.used false) where
        asked-placed : Past (register_rules (refusals p unlocked reply f rest)) 2
        unfolding refusals
        asked-placed = first_past _ _ _ asked-some (sym (placed p rest used-is))

        -- 11: cut off
        pub register-11 : length rest < r.bytes → 11 ≡ first (refusals p unlocked reply f rest)
        unfolding refusals
        register-11 t = first-here _ _ _ asked-placed (whole-is _ (lt-ltb _ _ t))

        module _ (whole : r.bytes ≤ length rest) where
          asked-whole : Past (register_rules (refusals p unlocked reply f rest)) 3
          unfolding refusals
          asked-whole = first_past _ _ _ asked-placed (whole-is _ (le-ltb _ _ whole))

          -- 12: too long an answer
          pub register-12 : true ≡ ltb limit (reply + r.answered) → 12 ≡ first (refusals p unlocked reply f rest)
          unfolding refusals
          register-12 t = first-here _ _ _ asked-whole (fits-is _ t)

          module _ (fits : false ≡ ltb limit (reply + r.answered)) where
            asked-fits : Past (register_rules (refusals p unlocked reply f rest)) 4
            unfolding refusals
            asked-fits = first_past _ _ _ asked-whole (fits-is _ fits)

            -- none
            pub register-none : 0 ≡ first (refusals p unlocked reply f rest)
            unfolding refusals
            register-none = sym (asked-fits ∙ first-of_none [] tt)
