use Rattle.packet.proofs.refusal.found_at.Goals as goal

pub returns : goal.returns
returns c = rw (← c.reply_before-reply.ensures.0) c.area_at-judged.ensures.found
