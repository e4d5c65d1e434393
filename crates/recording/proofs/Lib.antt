-- Laws of the definitions in specs/.
pub mod ReplyLaws
pub mod PairLaws
pub mod LoopLaws
pub mod ShowLaws
pub mod JudgeLaws
pub mod YesLaws
pub mod Examples
