pub mod Sentence
pub mod Report
