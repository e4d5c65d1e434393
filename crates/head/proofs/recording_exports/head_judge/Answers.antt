use Rattle.head.proofs.RecordingExportLaws.{judge-not_eight, judge-left}
use Rattle.head.proofs.recording_exports.head_judge.Goals as goal

pub returns-then-pointers-ne8 : goal.returns-then-pointers-ne8
returns-then-pointers-ne8 c = judge-not_eight _ _ _ c.if-pointers-ne8.true

pub returns : goal.returns
returns c = judge-left _ _ _ _ _ _ _ _
    c.if-pointers-ne8.false
    c.from_lent-p.ensures
    c.judge-judged.ensures
    c.put_pointers.ensures
    c.numbers_of-given.ensures
