pub mod Answer
pub mod Word
pub mod Space
pub mod Pointer
pub mod Info
