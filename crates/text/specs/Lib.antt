pub mod Number
pub mod Room
pub mod Line
pub mod Find
