-- Laws of the definitions in specs/, and of the loops.
pub mod ScanLaws
pub mod SpanLaws
pub mod LoopLaws
pub mod WriteLaws
pub mod SalvageLaws
pub mod EntryLaws
pub mod RepairLaws
pub mod Examples
