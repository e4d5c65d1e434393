pub mod Table
pub mod Layout
pub mod Calls
pub mod Inside
