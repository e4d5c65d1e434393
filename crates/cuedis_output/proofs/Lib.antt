-- Laws of the definitions in specs/.
pub mod ReportLaws
pub mod Examples
