pub mod Sentence
pub mod Whole
