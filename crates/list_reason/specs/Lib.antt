pub mod ListReason
pub mod Listing
