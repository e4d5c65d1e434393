pub mod Pointed
pub mod Wording
pub mod Packets
pub mod Hex
pub mod Words
pub mod Given
pub mod Whole
