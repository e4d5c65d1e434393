pub mod Unset
pub mod Tight
pub mod Demand3
pub mod Inside
