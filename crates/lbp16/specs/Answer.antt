-- An answer, as the papers list it: the values given, or a refusal's number and place.
use Rattle.std.specs.Prelude.{ℕ, List, Result, Ok, Err}
use Rattle.lbp16.specs.declared.Refusal.{Refusal}
use Rattle.lbp16.specs.declared.Rule.{Rule}

pub data Answer : Type 0 where
  accepted : List ℕ → Answer
  refused : ℕ → ℕ → Answer

-- the numbers of the refusal table
abbrev pub rule_number : Rule → ℕ
rule_number Rule.State = 1
rule_number Rule.PacketLength = 2
rule_number Rule.WordCut = 3
rule_number Rule.InfoWrite = 4
rule_number Rule.Space = 5
rule_number Rule.ElementSize = 6
rule_number Rule.CountZero = 7
rule_number Rule.Address = 8
rule_number Rule.ReadOnly = 9
rule_number Rule.Locked = 10
rule_number Rule.DataCut = 11
rule_number Rule.ReplyLength = 12
rule_number Rule.WordField = 13
rule_number Rule.ListLength = 21
rule_number Rule.Record = 22
rule_number Rule.RecordElement = 23
rule_number Rule.RecordValue = 24
rule_number Rule.Room = 26
rule_number Rule.LogRoom = 27
rule_number Rule.BurstEmpty = 31
rule_number Rule.BurstCommand = 32
rule_number Rule.BurstCount = 33
rule_number Rule.BurstLength = 34
rule_number Rule.BurstAddress = 35
rule_number Rule.Field = 40
rule_number Rule.Table = 41
rule_number Rule.FieldWidth = 42
rule_number Rule.NotStarted = 43
rule_number Rule.ReadingField = 44
rule_number Rule.ReadingBounds = 45
rule_number Rule.ReadingInfinite = 46
rule_number Rule.Output = 50
rule_number Rule.Clash = 51
rule_number Rule.ShowPacket = 61
rule_number Rule.ShowLength = 62
rule_number Rule.ShowByte = 63
rule_number Rule.ShowCut = 64
rule_number Rule.ShowUnmarked = 65
rule_number Rule.Guard = 70
rule_number Rule.Protected = 71
rule_number Rule.TextForm = 81
rule_number Rule.TextNumber = 82
rule_number Rule.TextName = 83
rule_number Rule.Capture = 91
rule_number Rule.FrameCut = 92
rule_number Rule.Datagram = 93
rule_number Rule.StrayReply = 94

-- the number of the rule that refuses, 0 where none does
abbrev pub ruled : {A : Type 0} → Result A Rule → ℕ
ruled (Ok _) = 0
ruled (Err r) = rule_number r

abbrev pub refusal : Refusal → Answer
refusal r = refused (rule_number r.rule) r.place
