pub mod Wording
pub mod Said
