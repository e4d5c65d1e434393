pub mod Wording
pub mod Packet
pub mod Inside
