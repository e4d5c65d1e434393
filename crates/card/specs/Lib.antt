pub mod Run
pub mod Inside
pub mod Cells
