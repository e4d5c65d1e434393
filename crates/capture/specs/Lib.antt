pub mod File
pub mod Datagram
pub mod Capture
pub mod Written
pub mod Inside
