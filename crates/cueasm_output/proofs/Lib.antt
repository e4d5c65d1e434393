-- Laws of the definitions in specs/.
pub mod SentenceLaws
pub mod ReportLaws
