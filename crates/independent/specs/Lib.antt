pub mod Independent
pub mod EitherOrder
pub mod Inside
