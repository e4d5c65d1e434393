pub mod Findings
pub mod Input
pub mod Given
pub mod Inside
