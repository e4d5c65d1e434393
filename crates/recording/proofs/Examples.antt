-- Short recordings judged on a fresh card, computed.
use Prim.Native.Nat.{ℕ}
use mathlib.Core.Path.{◌≡◌, refl}
use mathlib.Core.List.{List, [], ◌∷◌, ◌++◌}
use lib.ListN.{replicate}
use Rattle.lbp16.specs.Pointer
use Rattle.cue.specs.Play
use Rattle.cue.proofs.Examples.{all}
use Rattle.recording.specs.Recording
use Rattle.recording.specs.Recording.{Verdict}

-- opens every definition that a judgment computes with
unfoldable pairs : ℕ
unfolding Recording.first_wrong Recording.found_pair Recording.reply_pair Recording.answered_pair Recording.ran_pair Recording.front_pair
pairs = 0

unfoldable every : ℕ
unfolding all Play.reply_length pairs Recording.pair_at Recording.judged_from Recording.judged_parts Recording.judged_in Recording.said
every = 0

-- what is said of a recording that starts on a fresh card
pub heard : List ℕ → Verdict
unfolding every Recording.judged
heard recording = (Recording.judged recording (replicate 65728 0) Pointer.fresh).verdict

-- a read of one word, its reply, and a packet that is refused with 7
abbrev pub read : List ℕ
read = 0x4C ∷ 0x42 ∷ 4 ∷ 0 ∷ 0x81 ∷ 0x42 ∷ 0 ∷ 0x10 ∷ []

abbrev pub zeros : List ℕ
zeros = 0x4C ∷ 0x42 ∷ 4 ∷ 0 ∷ 0 ∷ 0 ∷ 0 ∷ 0 ∷ []

abbrev pub bad : List ℕ
bad = 0x4C ∷ 0x42 ∷ 4 ∷ 0 ∷ 0 ∷ 0x42 ∷ 0 ∷ 0x10 ∷ []

pub nothing-recorded : heard [] ≡ Recording.yes 0
unfolding heard
nothing-recorded = refl

pub two-packets : heard (read ++ zeros ++ read ++ zeros) ≡ Recording.yes 2
unfolding heard
two-packets = refl

pub wrong_byte : heard (read ++ (0x4C ∷ 0x42 ∷ 4 ∷ 0 ∷ 0 ∷ 0 ∷ 7 ∷ 7 ∷ [])) ≡ Recording.bad_byte 0 2
unfolding heard
wrong_byte = refl

-- the length before the bytes
pub wrong_length : heard (read ++ (0x4C ∷ 0x42 ∷ 2 ∷ 0 ∷ 7 ∷ 7 ∷ [])) ≡ Recording.bad_length 0
unfolding heard
wrong_length = refl

-- a missing reply is the next part; its packet is judged first
pub no_reply : (heard (read ++ zeros ++ read) ≡ Recording.cut 3) × (heard bad ≡ Recording.bad_packet 0)
unfolding heard
no_reply = (refl, refl)

pub one-byte_left : (heard (0x4C ∷ []) ≡ Recording.cut 0) × (heard (read ++ (7 ∷ [])) ≡ Recording.cut 1)
unfolding heard
one-byte_left = (refl, refl)

-- a cut part isn't judged, whatever its packet
pub length_cut : heard (0x4C ∷ 0x42 ∷ 4 ∷ []) ≡ Recording.cut 0
unfolding heard
length_cut = refl

pub no_mark : (heard (0x4C ∷ 0x4D ∷ []) ≡ Recording.unmarked 0) × (heard (read ++ (7 ∷ 7 ∷ [])) ≡ Recording.unmarked 1)
unfolding heard
no_mark = (refl, refl)
