-- What the walk over a text's lines keeps.
use Prim.Native.Nat.{ℕ, suc, ◌+◌, ◌*◌, ◌≤◌, ◌<◌, ◌^◌}
use mathlib.Core.Path.{◌≡◌, refl, sym, ap, ◌∙◌}
use mathlib.Core.Logic.{◌≢◌}
use mathlib.Core.List.{List, [], ◌∷◌, ◌++◌, append-nil, append_assoc}
use mathlib.Core.Bool.{Bool, true, false}
use native.Mathlib.Omega.{arith}
use native.Mathlib.Numerals.{add-one}
use native.Mathlib.Nat.{zero-add}
use lib.ListN.{length, take, drop, length-append, length-set}
use lib.Seq.{sets, length-sets, length-take-le, take-suc-set}
use borrow.Author.Tests.{eqb-false}
use Rattle.std.proofs.Common.{Ok, Err}
use Rattle.text.specs.Room.{Filled, filled, put_at}
use Rattle.lbp16.specs.Answer.{Answer, rule_number}
use Rattle.lbp16.specs.declared.Rule.{Rule}
use Rattle.lbp16.proofs.ListLaws.{sets_append}
use Rattle.packet.specs.Command.{pick_kind}
use Rattle.packet.specs.Step.{is_write}
use Rattle.packet.specs.Rules.{first}
use Rattle.packet.proofs.RuleLaws.{none-holds}
use Rattle.cue.specs.Packing.{join_all}
use Rattle.cue.specs.Records.{record_bytes, record_refusals, most_records}
use Rattle.cue_text.specs.Words.{lines_of}
use Rattle.cue_text.specs.Text.{most_names, bytes_of_cue, Meaning, refused, nothing, defines, does, line_meaning}
use Rattle.cue_text.specs.Assembled.{Assembled, bad, cues, with_cue, known_after, index_after, with_line, assembled_from, assembled, list_of}
use Rattle.cue_text.specs.Inside.{line_at, line_bytes, names_at, name_at, meaning_of, ten_bytes, tallied, table_after, room_after, Roomy, answered}
use Rattle.cue_text.specs.declared.line.Cue.{Cue}
use Rattle.cue_text.specs.declared.line.Said.{Said}
use Rattle.cue_text.specs.declared.walk.Tally.{Tally}
use Rattle.cue_text.proofs.WordLaws.{lines_next, lines_none, line-some}
use Rattle.cue_text.proofs.KnownLaws.{names-length, names_more}
use Rattle.cue_text.proofs.SaidLaws.{cue-length, taken-bytes}
use Rattle.cue_text.proofs.RefusalLaws.{Means, line-means}

-- the records so far in front of what the lines from here on give
unfoldable pub ahead : List Cue → Assembled → Assembled
ahead before (bad n line) = bad n line
ahead before (cues cs) = cues (before ++ cs)

ahead_none : (a : Assembled) → a ≡ ahead [] a
unfolding ahead
ahead_none (bad n line) = refl
ahead_none (cues cs) = refl

ahead_more : (before : List Cue) (c : Cue) (a : Assembled) → ahead before (with_cue c a) ≡ ahead (before ++ (c ∷ [])) a
unfolding ahead with_cue
ahead_more before c (bad n line) = refl
ahead_more before c (cues cs) = ap cues (sym (append_assoc before (c ∷ []) cs))

list-more : (before : List Cue) (c : Cue) → list_of (before ++ (c ∷ [])) ≡ list_of before ++ bytes_of_cue c
unfolding list_of join_all
list-more [] c = append-nil (bytes_of_cue c)
list-more (b ∷ before) c = ap (λ (l : List ℕ). bytes_of_cue b ++ l) (list-more before c) ∙ sym (append_assoc (bytes_of_cue b) (list_of before) (bytes_of_cue c))

cue-small : (c : Cue) → record_bytes (pick_kind c.write) ≤ 10
unfolding record_bytes is_write
cue-small c = go c.write
  where
    go : (t : Bool) → record_bytes (pick_kind t) ≤ 10
    go true = omega arith
    go false = omega arith

-- a record that no rule refuses is none too many
index_below : (index : ℕ) (rest : List ℕ) → first (record_refusals index rest) ≡ 0 → index ≢ most_records
unfolding record_refusals
index_below index rest e = eqb-false _ _ (none-holds (record_refusals index rest) (omega arith) e).0

-- a record put into the room
pub cue-put : (c : Cue) (n k : ℕ) (b room : List ℕ) → b ≡ ten_bytes c → n ≡ record_bytes (pick_kind c.write) → {r : ℕ} {room₁ : List ℕ}
    → filled r room₁ ≡ put_at (take n b) k room → room₁ ≡ sets room k (bytes_of_cue c)
unfolding put_at
cue-put c n k b room e f g = ap (λ (x : Filled). x.room) g ∙ ap (sets room k) (taken-bytes c n b e f)

-- Where the walk is: the lines above have given these records and names, and what the text gives is what they and the lines from here on give.
pub record Walking (text room₀ : List ℕ) (k : ℕ) (t : Tally) (table room : List ℕ) : Type 0 where
  pub within : k ≤ length text
  pub lines : t.lines ≤ k
  pub names : t.names ≤ most_names
  pub places : length table ≡ most_names
  pub done : List Cue
  pub records : t.records ≡ length done
  pub few : t.records ≤ most_records
  pub bytes : t.bytes ≡ length (list_of done)
  pub small : t.bytes ≤ 10 * t.records
  pub room-is : room ≡ sets room₀ 0 (list_of done)
  pub same : assembled text
      ≡ ahead done (assembled_from (names_at text (take t.names table)) t.records (suc t.lines) (lines_of (drop k text)))

pub walk_first : (text room table : List ℕ) → length table ≡ most_names
    → Walking text room 0 (record { lines = 0; names = 0; bytes = 0; records = 0 }) table room
unfolding list_of join_all names_at assembled
walk_first text room table e =
    record {
      within = omega arith;
      lines = omega arith;
      names = omega arith;
      places = e;
      done = [];
      records = refl;
      few = omega arith;
      bytes = refl;
      small = omega arith;
      room-is = refl;
      same = ahead_none _;
    }

module _ (text room₀ : List ℕ) (k : ℕ) (t : Tally) (table room : List ℕ) (w : Walking text room₀ k t table room) where
  pub room-same : length room ≡ length room₀
  room-same = ap length w.room-is ∙ length-sets room₀ 0 (list_of w.done)

  -- the end of the text
  walk-ended : length text ≤ k → assembled text ≡ cues w.done
  unfolding assembled_from ahead
  walk-ended l = rw (lines_none text k l) at w.same ∙ ap cues (append-nil w.done)

  pub walk-answer : length text ≤ k → Answer.accepted (t.bytes ∷ t.records ∷ []) ≡ answered (assembled text)
  unfolding answered
  walk-answer l = rw (walk-ended l, w.bytes, w.records) refl

  pub walk-room : length text ≤ k → (cs : List Cue) → assembled text ≡ cues cs → room ≡ sets room₀ 0 (list_of cs)
  walk-room l cs e =
      let f : cues w.done ≡ cues cs = sym (walk-ended l) ∙ e in
      let q : w.done ≡ cs = cc in
      w.room-is ∙ ap (λ (xs : List Cue). sets room₀ 0 (list_of xs)) q

  -- one line more
  module _ (l : k < length text) where
    turn : (m : Meaning) → m ≡ line_meaning (names_at text (take t.names table)) t.records (line_at text k)
        → assembled text
        ≡ ahead w.done
        (with_line m (suc t.lines)
        (assembled_from (known_after m (names_at text (take t.names table))) (index_after m t.records) (suc (suc t.lines))
        (lines_of (drop (k + line_bytes (drop k text)) text))))
    unfolding assembled_from
    turn m f = rw f (rw (lines_next text k l) at w.same)

    -- a line that is refused refuses the text
    module _ (rule : Rule) (e : meaning_of text (Err rule) ≡ line_meaning (names_at text (take t.names table)) t.records (line_at text k)) where
      walk-bad : assembled text ≡ bad (rule_number rule) (suc t.lines)
      unfolding meaning_of with_line ahead
      walk-bad = turn (refused (rule_number rule)) e

      pub walk_refused : (Answer.refused (rule_number rule) (t.lines + 1) ≡ answered (assembled text))
          × ((cs : List Cue) → assembled text ≡ cues cs → room ≡ sets room₀ 0 (list_of cs))
      unfolding answered
      walk_refused = (
        rw (walk-bad, add-one) refl,
        λ cs q.
            let p : bad (rule_number rule) (suc t.lines) ≡ cues cs = sym walk-bad ∙ q in
            let z : ◌≡◌ {A = ℕ} 0 1 = cc in
            absurd (omega arith),
      )

  module _ (l : k < length text) (said : Said)
      (e : meaning_of text (Ok said) ≡ line_meaning (names_at text (take t.names table)) t.records (line_at text k)) where
    means : Means (names_at text (take t.names table)) t.records (meaning_of text (Ok said))
    means = rw e (line-means (names_at text (take t.names table)) t.records (line_at text k))

    names-many : length (names_at text (take t.names table)) ≡ t.names
    names-many = names-length text (take t.names table) ∙ length-take-le t.names table (omega (arith, w.names, w.places))

    -- there is room for a name and for a record
    pub name_free : (j : ℕ) → said ≡ Said.Defines j → t.names < length table
    unfolding meaning_of
    name_free j f =
        let m : length (names_at text (take t.names table)) ≢ most_names = rw f at means in
        omega (arith, m, names-many, w.names, w.places)

    pub record_free : (c : Cue) → said ≡ Said.Does c → t.records < most_records
    unfolding meaning_of
    record_free c f = omega (arith, index_below _ _ (rw f at means), w.few)

    pub roomy : length text < 2 ^ 64 → Roomy t said table
    roomy h =
        record {
          lines = omega (arith, w.lines);
          names = w.names;
          bytes = omega (arith, w.small, w.few);
          records = omega (arith, w.few);
          free = name_free;
        }

    -- the walk behind the line, by what the line says
    some : (1 ≤ line_bytes (drop k text)) × (k + line_bytes (drop k text) ≤ length text)
    some = line-some text k l

    walk-nothing : nothing ≡ line_meaning (names_at text (take t.names table)) t.records (line_at text k)
        → Walking text room₀ (k + line_bytes (drop k text)) (tallied t Said.Nothing) (table_after Said.Nothing t.names table)
        (room_after Said.Nothing t.bytes room)
    unfolding tallied table_after room_after known_after index_after with_line
    walk-nothing e =
        record {
          within = some.1;
          lines = omega (arith, w.lines, some);
          names = w.names;
          places = w.places;
          done = w.done;
          records = w.records;
          few = w.few;
          bytes = w.bytes;
          small = w.small;
          room-is = w.room-is;
          same = rw add-one (turn l nothing e);
        }

    walk-defines : (j : ℕ) → defines (name_at text j) ≡ line_meaning (names_at text (take t.names table)) t.records (line_at text k)
        → t.names < length table
        → Walking text room₀ (k + line_bytes (drop k text)) (tallied t (Said.Defines j)) (table_after (Said.Defines j) t.names table)
        (room_after (Said.Defines j) t.bytes room)
    unfolding tallied table_after room_after known_after index_after with_line
    walk-defines j e h =
        record {
          within = some.1;
          lines = omega (arith, w.lines, some);
          names = omega (arith, w.places);
          places = length-set table t.names j ∙ w.places;
          done = w.done;
          records = w.records;
          few = w.few;
          bytes = w.bytes;
          small = w.small;
          room-is = w.room-is;
          same =
              rw (add-one, add-one, take-suc-set table t.names j h, names_more text (take t.names table) j)
              (turn l (defines (name_at text j)) e);
        }

    walk-does : (c : Cue) → does c ≡ line_meaning (names_at text (take t.names table)) t.records (line_at text k)
        → t.records < most_records
        → Walking text room₀ (k + line_bytes (drop k text)) (tallied t (Said.Does c)) (table_after (Said.Does c) t.names table)
        (room_after (Said.Does c) t.bytes room)
    unfolding tallied table_after room_after known_after index_after with_line
    walk-does c e h =
        record {
          within = some.1;
          lines = omega (arith, w.lines, some);
          names = w.names;
          places = w.places;
          done = w.done ++ (c ∷ []);
          records = rw (length-append, w.records) refl;
          few = omega arith;
          bytes = rw (list-more w.done c, length-append, cue-length c, w.bytes) refl;
          small = omega (arith, w.small, cue-small c);
          room-is =
              rw (list-more w.done c, w.bytes, ← sets_append room₀ 0 (list_of w.done) (bytes_of_cue c), ← w.room-is, zero-add) refl;
          same = rw (add-one, add-one) (turn l (does c) e ∙ ahead_more w.done c _);
        }

    -- the walk behind the line
    pub walk-next : Walking text room₀ (k + line_bytes (drop k text)) (tallied t said) (table_after said t.names table) (room_after said t.bytes room)
    unfolding meaning_of
    walk-next = go said e name_free record_free
      where
        go : (s : Said) → meaning_of text (Ok s) ≡ line_meaning (names_at text (take t.names table)) t.records (line_at text k)
            → ((j : ℕ) → s ≡ Said.Defines j → t.names < length table) → ((c : Cue) → s ≡ Said.Does c → t.records < most_records)
            → Walking text room₀ (k + line_bytes (drop k text)) (tallied t s) (table_after s t.names table) (room_after s t.bytes room)
        go Said.Nothing e d r = walk-nothing e
        go (Said.Defines j) e d r = walk-defines j e (d j refl)
        go (Said.Does c) e d r = walk-does c e (r c refl)
