pub mod Guard
pub mod Guarded
pub mod Spared
pub mod Vetted
pub mod Inside
