-- What the code answers, as the definitions have it: in numbers.
use Rattle.std.specs.Prelude.{ℕ, Option, Some, None, Result, Ok, Err}
use Rattle.lbp16.specs.Answer.{rule_number}
use Rattle.list_reason.specs.declared.Cause.{Cause}
use Rattle.list_reason.specs.declared.Stopped.{Stopped}
use Rattle.list_reason.specs.declared.ListFault.{ListFault}
use Rattle.list_reason.specs.ListReason.{Reached, ListWhy}

-- a cause's number among those of its refusal
abbrev pub cause_number : Cause → ℕ
cause_number Cause.UnknownMark = 1
cause_number Cause.RecordCut = 2
cause_number Cause.AbsentSpace = 1
cause_number Cause.Misaligned = 2
cause_number Cause.PastEnd = 3
cause_number Cause.ReadOnly = 4
cause_number Cause.UnlockCell = 5
cause_number Cause.PacketCount = 6
cause_number Cause.SpareByte = 1
cause_number Cause.TooWide = 2

-- 0 where there is none
abbrev pub cause_listed : Option Cause → ℕ
cause_listed None = 0
cause_listed (Some c) = cause_number c

-- of a list of so many bytes
abbrev pub reached_listed : ℕ → Result ℕ Stopped → Reached
reached_listed bytes (Ok n) = record { number = 0; records = n; bytes = bytes }
reached_listed bytes (Err s) = record { number = rule_number s.rule; records = s.records; bytes = s.bytes }

abbrev pub why_listed : Option ListFault → ListWhy
why_listed None = record { number = 0; place = 0; offset = 0; cause = 0 }
why_listed (Some w) =
    record { number = rule_number w.refusal.rule; place = w.refusal.place; offset = w.offset; cause = cause_listed w.cause }
