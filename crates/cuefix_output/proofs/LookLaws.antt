-- Laws of the record before a stretch: the walk over the records, as the code makes it, and the bytes between two places.
use Prim.Native.Nat.{ℕ, zero, suc, ◌+◌, ◌-◌, min, ◌≤◌, ◌<◌}
use mathlib.Core.Path.{◌≡◌, refl, sym, ◌∙◌}
use mathlib.Core.List.{List, []}
use native.Mathlib.Omega.{arith}
use native.Mathlib.Decide.{dec_le}
use lib.ListN.{length, take, drop, length-drop, drop_of_length-le}
use lib.Seq.{take_all}
use borrow.Author.Tests.{lt-ltb, le-ltb}
use Rattle.text.specs.Room.{filled, put_at}
use Rattle.text.proofs.RoomLaws.{put-none}
use Rattle.salvage.specs.Salvage.{size_at}
use Rattle.salvage.proofs.ScanLaws.{size-some}
use Rattle.cuefix_output.specs.Account.{record_line, last_from, look_line}

-- What holds before a record: the last from here on is the last from the start on.
pub record Walking (list : List ℕ) (from to at size : ℕ) : Type 0 where
  pub fuel : ℕ
  pub enough : to ≤ at + fuel
  pub within : at ≤ to
  pub here : size ≡ size_at (drop at list)
  pub same : last_from fuel list at to ≡ last_from to list from to

pub walking_first : (list : List ℕ) (from to size : ℕ) → from ≤ to → size ≡ size_at (drop from list) → Walking list from to from size
walking_first list from to size h e = record { fuel = to; enough = omega arith; within = h; here = e; same = refl }

pub walking_some : {list : List ℕ} {from to at size : ℕ} → Walking list from to at size → 1 ≤ size
walking_some {list} {from} {to} {at} w = omega (arith, w.here, size-some (drop at list))

pub walking_next : {list : List ℕ} {from to at size : ℕ} → Walking list from to at size → size < to - at → (size₂ : ℕ)
    → size₂ ≡ size_at (drop (at + size) list) → Walking list from to (at + size) size₂
unfolding last_from
walking_next {list} {from} {to} {at} {size} w h size₂ e = go w.fuel w.enough w.same
  where
    go : (k : ℕ) → to ≤ at + k → last_from k list at to ≡ last_from to list from to → Walking list from to (at + size) size₂
    go zero l s = absurd (omega arith)
    go (suc k) l s =
        record {
          fuel = k;
          enough = omega (arith, walking_some w);
          within = omega arith;
          here = e;
          same = rw (← w.here, lt-ltb size (to - at) h) at s;
        }

pub walking_last : {list : List ℕ} {from to at size : ℕ} → Walking list from to at size → to - at ≤ size
    → at ≡ last_from to list from to
unfolding last_from
walking_last {list} {from} {to} {at} {size} w h = go w.fuel w.same
  where
    go : (k : ℕ) → last_from k list at to ≡ last_from to list from to → at ≡ last_from to list from to
    go zero s = s
    go (suc k) s = rw (← w.here, le-ltb size (to - at) h) at s

none-taken : (m n : ℕ) → take {A = ℕ} m [] ≡ take n []
none-taken zero zero = refl
none-taken zero (suc n) = refl
none-taken (suc m) zero = refl
none-taken (suc m) (suc n) = refl

-- the bytes between two places, as their ends are computed
pub between_is : (list : List ℕ) (from to a b : ℕ) → from ≤ to → a ≡ min from (length list) → b ≡ min to (length list)
    → take (b - a) (drop a list) ≡ take (to - from) (drop from list)
between_is list from to a b h e f = go (dec_le from (length list)) (dec_le to (length list))
  where
    rest : length (drop from list) ≡ length list - from
    rest = length-drop from list

    go : Dec (from ≤ length list) → Dec (to ≤ length list) → take (b - a) (drop a list) ≡ take (to - from) (drop from list)
    go (yes k) (yes l) =
        let p : a ≡ from = omega arith in
        let q : b ≡ to = omega arith in
        rw (p, q) refl
    go (yes k) (no l) =
        let p : a ≡ from = omega arith in
        rw p (take_all (b - from) (drop from list) (omega (arith, rest)) ∙ sym (take_all (to - from) (drop from list) (omega (arith, rest))))
    go (no k) l =
        rw (drop_of_length-le list {i = a} (omega arith), drop_of_length-le list {i = from} (omega arith)) (none-taken (b - a) (to - from))

-- the line of a record, and none
pub look_none : (list room : List ℕ) (from start : ℕ) → start ≤ from → filled 0 room ≡ put_at (look_line list from start) 0 room
unfolding look_line
look_none list room from start h = rw (le-ltb from start h) (put-none room 0 (omega arith))

pub look_some : (list bytes room room₂ : List ℕ) (from start k n : ℕ) → from < start → k ≡ last_from start list from start
    → bytes ≡ take (start - k) (drop k list) → filled n room₂ ≡ put_at (record_line bytes k) 0 room
    → filled n room₂ ≡ put_at (look_line list from start) 0 room
unfolding look_line
look_some list bytes room room₂ from start k n h e f p = rw (lt-ltb from start h, ← e, ← f) p
