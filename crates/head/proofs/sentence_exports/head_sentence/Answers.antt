use Rattle.head.proofs.SentenceExportLaws.{sentence-short_room, sentence-fits}
use Rattle.head.proofs.sentence_exports.head_sentence.Goals as goal

pub returns-then-room-n : goal.returns-then-room-n
returns-then-room-n c = sentence-short_room _ _ _ _ c.whole-n.ensures c.if-room-n.true

pub returns-else-room-n : goal.returns-else-room-n
returns-else-room-n c = sentence-fits _ _ _ _ c.whole-n.ensures c.if-room-n.false
