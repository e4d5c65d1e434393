use Rattle.std.proofs.Common.{refl}
use Rattle.text.specs.Number.{ascii}
use Rattle.cueasm_output.specs.Sentence.{says}
use Rattle.cueasm_output.proofs.sentence.words.Goals as goal

pub returns-in-Form : goal.returns-in-Form
unfolding says ascii
returns-in-Form c = rw c.in-Form.is refl

pub returns-in-Space : goal.returns-in-Space
unfolding says ascii
returns-in-Space c = rw c.in-Space.is refl

pub returns-in-Address : goal.returns-in-Address
unfolding says ascii
returns-in-Address c = rw c.in-Address.is refl

pub returns-in-Value : goal.returns-in-Value
unfolding says ascii
returns-in-Value c = rw c.in-Value.is refl

pub returns-in-NoName : goal.returns-in-NoName
unfolding says ascii
returns-in-NoName c = rw c.in-NoName.is refl

pub returns-in-NotDefined : goal.returns-in-NotDefined
unfolding says ascii
returns-in-NotDefined c = rw c.in-NotDefined.is refl

pub returns-in-Again : goal.returns-in-Again
unfolding says ascii
returns-in-Again c = rw c.in-Again.is refl

pub returns-in-TooMany : goal.returns-in-TooMany
unfolding says ascii
returns-in-TooMany c = rw c.in-TooMany.is refl

pub returns-in-Records : goal.returns-in-Records
unfolding says ascii
returns-in-Records c = rw c.in-Records.is refl

pub returns-in-NoSpace : goal.returns-in-NoSpace
unfolding says ascii
returns-in-NoSpace c = rw c.in-NoSpace.is refl

pub returns-in-Misaligned : goal.returns-in-Misaligned
unfolding says ascii
returns-in-Misaligned c = rw c.in-Misaligned.is refl

pub returns-in-PastEnd : goal.returns-in-PastEnd
unfolding says ascii
returns-in-PastEnd c = rw c.in-PastEnd.is refl

pub returns-in-ReadOnly : goal.returns-in-ReadOnly
unfolding says ascii
returns-in-ReadOnly c = rw c.in-ReadOnly.is refl

pub returns-in-Unlock : goal.returns-in-Unlock
unfolding says ascii
returns-in-Unlock c = rw c.in-Unlock.is refl

pub returns-in-PacketCount : goal.returns-in-PacketCount
unfolding says ascii
returns-in-PacketCount c = rw c.in-PacketCount.is refl

pub returns-in-TooWide : goal.returns-in-TooWide
unfolding says ascii
returns-in-TooWide c = rw c.in-TooWide.is refl
