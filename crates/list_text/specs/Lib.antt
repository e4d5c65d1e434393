pub mod Written
pub mod SameList
pub mod Inside
