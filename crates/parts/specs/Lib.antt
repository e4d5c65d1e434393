pub mod Taking
pub mod Rule
pub mod State
pub mod Parts
pub mod Promise
pub mod Inside
