-- Laws of the checker of a proposed output, and demand 3 of all that it accepts.
pub mod SameLaws
pub mod AcceptedLaws
pub mod PointerLaws
pub mod MixedLaws
pub mod CheckedLaws
pub mod Demand3Laws
pub mod OwnLaws
pub mod Examples
-- The code's walk over the proposal and the list.
pub mod StepLaws
pub mod TakeLaws
pub mod ElementsLaws
pub mod CommandLaws
pub mod PacketLaws
pub mod ListLaws
pub mod PartsLaws
pub mod AnswerLaws
