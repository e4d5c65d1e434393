use mathlib.Core.Path.{sym, ap, ◌∙◌}
use Rattle.lbp16.specs.Answer.{refusal}
use Rattle.sserial.specs.Calls.{call_listed}
use Rattle.sserial.specs.Inside.{directed_ahead}
use Rattle.sserial.proofs.CallLaws.{refused-by, left_by_lem, channel_there, pack_refused, no_channel-refused}
use Rattle.sserial.proofs.CallLaws.{none_unfit, some_fit, unfit_refused, uncounted_refused, pack_done, put_back}
use Rattle.sserial.proofs.call.pack_fields.Goals as goal
use Rattle.sserial.proofs.call.pack_fields.Goals.{then-no_channel-via-then-no_channel, then-no_channel-via-else-no_channel+then-values-n}

pub returns-then-no_channel : goal.returns-then-no_channel
unfolding call_listed
returns-then-no_channel c = rw
    (pack_refused (directed_ahead c.args.fields) c.args.channel c.args.values.now c.args.registers.now (elim c.then-no_channel.branch [
      | then-no_channel-via-then-no_channel w ↦ no_channel-refused _ _ _ _ (sym c.no_channel.ensures ∙ w.if-no_channel.true)
      | then-no_channel-via-else-no_channel+then-values-n w ↦ uncounted_refused _ _ _ _ (λ e. w.if-values-n.true (e ∙ c.requires.count))
    ]))
    (refused-by _ (ap refusal c.at.ensures))

pub returns-in_default : goal.returns-in_default
unfolding call_listed
returns-in_default c = rw
    (pack_refused _ _ _ _ (unfit_refused _ _ _ _ (none_unfit _ _ (sym c.pack_values.ensures ∙ c.in_default.is))))
    (refused-by _ (ap refusal c.at-in_default.ensures))

pub channels_of-all-requires : goal.channels_of-all-requires
channels_of-all-requires c = (channel_there _ _ (sym c.no_channel.ensures ∙ c.if-no_channel.false)).1

pub with_channel-next-requires : goal.with_channel-next-requires
with_channel-next-requires c = (channel_there _ _ (sym c.no_channel.ensures ∙ c.if-no_channel.false)).0

pub put_channels-requires : goal.put_channels-requires
put_channels-requires c = (channel_there _ _ (sym c.no_channel.ensures ∙ c.if-no_channel.false)).1

pub returns : goal.returns
unfolding call_listed
returns c = let h = sym c.no_channel.ensures ∙ c.if-no_channel.false in
    rw
    (pack_done _ _ _ _ h (some_fit _ _ _ (sym c.pack_values.ensures ∙ c.in-Some.is)).0)
    (left_by_lem
    (put_back _ _ _ _ _ _ _ _ h
    (some_fit _ _ _ (sym c.pack_values.ensures ∙ c.in-Some.is)).1
    c.channels_of-all.ensures
    c.with_channel-next.ensures
    c.put_channels.ensures))
