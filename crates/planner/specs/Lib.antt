pub mod Planner
pub mod Inside
