-- Steps that leave each other alone commute, and so do two lists of which neither writes a cell that the other names.
pub mod CommuteLaws
pub mod PlaceLaws
pub mod TurnLaws
pub mod EitherOrder
pub mod ExactLaws
pub mod MarkLaws
pub mod WalkLaws
pub mod LoopLaws
pub mod AnswerLaws
