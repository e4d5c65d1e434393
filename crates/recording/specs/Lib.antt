pub mod Recording
pub mod Show
