-- The recording that our own card makes of a show: each packet with the reply that it gives.
use Rattle.std.specs.Prelude.{ℕ, List, [], ◌∷◌, ◌++◌, take, replicate}
use Rattle.lbp16.specs.declared.pointer.Pointers.{Pointers}
use Rattle.packet.specs.Command.{limit}
use Rattle.card.specs.Run.{Outcome, run_packet}
use Rattle.cue.specs.Output.{output_of}
use Rattle.cue.specs.Play.{reply_length}

-- a packet's run, with a reply room of zeros, and its reply up to the answered length
unfoldable pub shown_run : List ℕ → List ℕ → Pointers → Outcome
shown_run packet store p = run_packet packet store p (replicate limit 0)

unfoldable pub reply_in : Outcome → List ℕ
reply_in o = take (reply_length o.answer) o.reply

-- the parts: each packet runs on the state that the one before left
unfoldable pub shown : List (List ℕ) → List ℕ → Pointers → List (List ℕ)
shown [] store p = []
shown (packet ∷ rest) store p =
    let o = shown_run packet store p in
    packet ∷ reply_in o ∷ shown rest o.store o.pointers

unfoldable pub recording_of : List (List ℕ) → List ℕ → Pointers → List ℕ
recording_of packets store p = output_of (shown packets store p)

-- the replies among such parts, joined
unfoldable pub replies_of : List (List ℕ) → List ℕ
replies_of [] = []
replies_of (packet ∷ []) = []
replies_of (packet ∷ reply ∷ rest) = reply ++ replies_of rest
