pub mod Words
pub mod Numbers
pub mod Text
pub mod Assembled
pub mod TextShow
pub mod Fault
pub mod Inside
