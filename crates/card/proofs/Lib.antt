-- Laws of the definitions in specs/.
pub mod RunLaws
pub mod ElementLaws
pub mod BlockLaws
pub mod CopyLaws
pub mod StepBlockLaws
pub mod CommandRunLaws
pub mod PerformLaws
pub mod AnswerLaws
pub mod CellLaws
