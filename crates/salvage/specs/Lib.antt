pub mod Salvage
pub mod Inside
