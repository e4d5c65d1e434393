use mathlib.Core.Path.{sym, ap, ◌∙◌}
use Rattle.lbp16.specs.Answer.{refusal}
use native.Mathlib.Omega.{arith}
use Rattle.sserial.specs.Calls.{call_listed}
use Rattle.sserial.specs.Inside.{directed_ahead}
use Rattle.sserial.proofs.CallLaws.{refused-by, left_by_lem, channel_there, unpack_refused, unpack_no_channel, unpack_uncounted, unpack_done}
use Rattle.sserial.proofs.CallLaws.{row_words, row_read}
use Rattle.sserial.proofs.call.unpack_fields.Goals as goal
use Rattle.sserial.proofs.call.unpack_fields.Goals.{then-no_channel-via-then-no_channel, then-no_channel-via-else-no_channel+then-values-n}

pub returns-then-no_channel : goal.returns-then-no_channel
unfolding call_listed
returns-then-no_channel c = rw
    (unpack_refused (directed_ahead c.args.fields) c.args.channel c.args.values.now c.args.registers.now (elim c.then-no_channel.branch [
      | then-no_channel-via-then-no_channel w ↦ unpack_no_channel _ _ _ _ (sym c.no_channel.ensures ∙ w.if-no_channel.true)
      | then-no_channel-via-else-no_channel+then-values-n w ↦ unpack_uncounted _ _ _ _ (λ e. w.if-values-n.true (e ∙ c.requires.count))
    ]))
    (refused-by _ (ap refusal c.at.ensures))

pub channels_of-all-requires : goal.channels_of-all-requires
channels_of-all-requires c = (channel_there _ _ (sym c.no_channel.ensures ∙ c.if-no_channel.false)).1

pub bounds-all-channel : goal.bounds-all-channel
bounds-all-channel c = let h = (channel_there _ _ (sym c.no_channel.ensures ∙ c.if-no_channel.false)).0 in omega arith

pub read-requires : goal.read-requires
read-requires c = let h = sym c.no_channel.ensures ∙ c.if-no_channel.false in (
  rw c.if-values-n.false c.requires,
  row_words _ _ _ h
      c.channels_of-all.ensures
      (λ i. (c.type_inv.registers i).fits),
)

pub returns : goal.returns
unfolding call_listed
returns c = let h = sym c.no_channel.ensures ∙ c.if-no_channel.false in
    let n = c.if-values-n.false ∙ sym c.requires.count in
    rw
    (unpack_done _ _ _ _ h n)
    (left_by_lem (row_read _ _ _ h c.channels_of-all.ensures _ _ c.read.ensures))
