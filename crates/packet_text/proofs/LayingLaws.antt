-- The loop over accepted commands: where it stands between two of them.
use Prim.Native.Nat.{ℕ, zero, suc, ◌+◌, ◌-◌, ◌*◌, ◌≤◌}
use mathlib.Core.Path.{◌≡◌, refl, ap, ◌∙◌}
use mathlib.Core.List.{List, [], ◌∷◌, ◌++◌}
use native.Mathlib.Omega.{arith}
use lib.ListN.{length, take, drop, length-drop}
use lib.Seq.{sets, length-sets}
use Rattle.lbp16.specs.Space.{space_of}
use Rattle.lbp16.specs.Pointer.{advanced, with_pointer}
use Rattle.lbp16.specs.declared.word.Fields.{Fields}
use Rattle.lbp16.specs.declared.pointer.Pointers.{Pointers}
use Rattle.packet.specs.Step.{is_info}
use Rattle.packet.specs.Command.{limit, fields_at, kind_of, command_bytes, address_used, stride, pointers_after}
use Rattle.packet.specs.Judge.{Carried, accepted, begin, carry, judge}
use Rattle.packet.proofs.SliceLaws.{tail-whole}
use Rattle.packet.proofs.CommandLaws.{header-some, command-some, advanced_used}
use Rattle.packet.proofs.JudgeLaws.{PassedNext}
use Rattle.packet.proofs.RefusalLaws.{Reaches, here, past, behind, all-passed}
use Rattle.reason.specs.Reason.{pointers_left}
use Rattle.text.specs.Room.{filled}
use Rattle.packet_text.specs.Packet.{line_by, line_text, lines_from, lines_text}
use Rattle.packet_text.specs.Inside.{laid_at, Plain}
use Rattle.packet_text.proofs.SizeLaws.{count_at}
use Rattle.packet_text.proofs.ListingLaws.{line-size, laid_then, laid_none}

-- one line more
record Line (fuel : ℕ) (p : Pointers) (place : ℕ) (rest : List ℕ) : Type 0 where
  less : ℕ
  enough : length (behind rest) ≤ less
  same : lines_from fuel p place rest
      ≡ line_text p place rest ++ lines_from less (pointers_after p (fields_at rest) rest) (place + command_bytes (fields_at rest)) (behind rest)

line-next : (fuel : ℕ) (p : Pointers) (place : ℕ) (rest : List ℕ) → 1 ≤ length rest → length rest ≤ fuel → Line fuel p place rest
unfolding lines_from
line-next zero p place rest h l = absurd (omega arith)
line-next (suc fuel) p place [] h l = absurd (omega arith)
line-next (suc fuel) p place (b ∷ bs) h l =
    record { less = fuel; enough = rw length-drop (omega (arith, command-some (fields_at (b ∷ bs)))); same = refl }

lines_none : (fuel : ℕ) (p : Pointers) (place : ℕ) (rest : List ℕ) → length rest ≡ 0 → lines_from fuel p place rest ≡ []
unfolding lines_from
lines_none zero p place rest e = refl
lines_none (suc fuel) p place [] e = refl
lines_none (suc fuel) p place (b ∷ bs) e = absurd (omega arith)

-- a command that passes, and the end
passes-here : {c end : Carried} {rest left : List ℕ} → Reaches c rest end left → length left ≡ 0 → 1 ≤ length rest
    → PassedNext c rest × Reaches (carry c rest) (behind rest) end left
passes-here here e l = absurd (omega arith)
passes-here (past n r) e l = (n, r)

ends-here : {c end : Carried} {rest left : List ℕ} → Reaches c rest end left → length rest ≡ 0 → c ≡ end
ends-here here e = refl
ends-here {rest = rest} (past n r) e = absurd (omega (arith, n.header, header-some (fields_at rest)))

-- The lines of the commands left, laid from here on, are all lines laid at the front.
pub record Laying (p : Pointers) (commands : List ℕ) (pointers : Pointers) (rest out₀ out : List ℕ) (bytes : ℕ) : Type 0 where
  end : Carried
  whole : judge p commands ≡ accepted end
  carried : Carried
  onward : Reaches carried rest end []
  pointed : pointers ≡ carried.pointers
  fuel : ℕ
  enough : length rest ≤ fuel
  laid : laid_at (lines_from fuel pointers (length commands - length rest) rest) bytes out ≡ laid_at (lines_text p commands) 0 out₀
  pub short : length commands ≤ limit
  pub within : length rest ≤ length commands
  pub few : bytes ≤ 44 * (length commands - length rest)
  pub size : length out ≡ length out₀

pub laying_begin : (p : Pointers) (commands out : List ℕ) → length commands ≤ limit
    → (end : Carried) × (judge p commands ≡ accepted end) → Laying p commands p commands out out 0
unfolding lines_text begin
laying_begin p commands out short (end, e) =
    let z : length commands - length commands ≡ 0 = omega arith in
    record {
      end = end;
      whole = e;
      carried = begin p;
      onward = all-passed p commands end e;
      pointed = refl;
      fuel = length commands;
      enough = omega arith;
      laid = rw z refl;
      short = short;
      within = omega arith;
      few = omega arith;
      size = refl;
    }

module _ {p : Pointers} {commands : List ℕ} {pointers : Pointers} {rest out₀ out : List ℕ} {bytes : ℕ}
    (s : Laying p commands pointers rest out₀ out bytes) where
  pub laying_end : length rest ≡ 0
      → (filled bytes out ≡ laid_at (lines_text p commands) 0 out₀) × (pointers ≡ pointers_left (judge p commands) p) × (bytes ≤ 44 * length commands)
  unfolding pointers_left
  laying_end e =
      let none = lines_none s.fuel pointers (length commands - length rest) rest e in
      let few = s.few in (
        laid_none bytes out ∙ rw none at s.laid,
        rw s.whole (s.pointed ∙ ap (λ (c : Carried). c.pointers) (ends-here s.onward e)),
        omega arith,
      )

  module _ (some : length rest ≡ 0 → ⊥) (f : Fields) (e : f ≡ fields_at rest) where
    more : 1 ≤ length rest
    more = go (length rest) some
      where
        go : (n : ℕ) → (n ≡ 0 → ⊥) → 1 ≤ n
        go zero h = absurd (h refl)
        go (suc n) h = omega arith

    passes : PassedNext s.carried rest × Reaches (carry s.carried rest) (behind rest) s.end []
    passes = passes-here s.onward refl more

    pub laying_plain : Plain (length commands - length rest) f
    laying_plain = let h = s.short in rw e (omega arith, count_at rest, passes.0.present)

    module _ (k : ℕ) (q : k ≡ command_bytes f) where
      bytes_are : k ≡ command_bytes (fields_at rest)
      bytes_are = q ∙ ap command_bytes e

      pub laying_whole : k ≤ length rest
      laying_whole = rw bytes_are passes.0.whole

      pub laying_some : 2 ≤ k
      laying_some = rw bytes_are (command-some (fields_at rest))

      module _ (used n : ℕ) (u : used ≡ address_used pointers f rest) (out₁ : List ℕ)
          (m : n ≡ length (line_by (length commands - length rest) f used rest))
          (o : out₁ ≡ sets out bytes (line_by (length commands - length rest) f used rest)) where
        line-is : line_by (length commands - length rest) f used rest ≡ line_text pointers (length commands - length rest) rest
        unfolding line_text
        line-is = rw (u, e) refl

        pub laying_few : bytes + n ≤ 44 * (length commands - length rest + k)
        laying_few =
            let a = s.few in
            let l = (line-size (length commands - length rest) f laying_plain used rest).1 in
            let b : n ≤ 44 * k = rw (m, q) l in
            omega arith

        module _ (after : Pointers)
            (a : after ≡ with_pointer pointers (is_info (kind_of f)) (space_of f.space) (advanced used (f.count * stride f))) where
          after_is : after ≡ pointers_after pointers (fields_at rest) rest
          unfolding pointers_after
          after_is = a ∙ rw (u, e, s.pointed, advanced_used _ _ _ (fields_at rest) rest passes.0) refl

          pub laying_next : Laying p commands after (take (length rest - k) (drop k rest)) out₀ out₁ (bytes + n)
          unfolding carry
          laying_next =
              let next = line-next s.fuel pointers (length commands - length rest) rest more s.enough in
              let within = s.within in
              let fewer : length (behind rest) ≡ length rest - command_bytes (fields_at rest) = length-drop _ rest in
              let whole = passes.0.whole in
              let further : length commands - length (behind rest) ≡ length commands - length rest + command_bytes (fields_at rest) = omega arith in
              let small = laying_few in
              let k-is = bytes_are in
              let on =
              laid_then (line_text pointers (length commands - length rest) rest)
              (lines_from next.less (pointers_after pointers (fields_at rest) rest) (length commands - length rest + command_bytes (fields_at rest))
              (behind rest))
              bytes out out₁ n
              (m ∙ ap length line-is)
              (o ∙ ap (sets out bytes) line-is) in
              rw (tail-whole, bytes_are) (record {
                end = s.end;
                whole = s.whole;
                carried = carry s.carried rest;
                onward = passes.1;
                pointed = after_is ∙ rw s.pointed refl;
                fuel = next.less;
                enough = next.enough;
                laid = rw (after_is, further) (on ∙ rw next.same at s.laid);
                short = s.short;
                within = omega arith;
                few = omega arith;
                size = ap length o ∙ (length-sets out bytes (line_by (length commands - length rest) f used rest) ∙ s.size);
              })

    -- as the code has it before the command's bytes are known
    pub laying_fits : (used n : ℕ) → used ≡ address_used pointers f rest → (out₁ : List ℕ)
        → n ≡ length (line_by (length commands - length rest) f used rest)
        → out₁ ≡ sets out bytes (line_by (length commands - length rest) f used rest) → bytes + n ≤ 64768
    laying_fits used n u out₁ m o =
        let w = laying_whole (command_bytes f) refl in
        let few = laying_few (command_bytes f) refl used n u out₁ m o in
        let within = s.within in
        let short = s.short in
        omega arith
