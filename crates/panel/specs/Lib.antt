pub mod Masks
pub mod Reading
pub mod FieldReading
