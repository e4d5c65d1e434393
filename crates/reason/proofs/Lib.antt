-- Laws of the definitions in specs/.
pub mod PartLaws
pub mod WalkLaws
pub mod ReasonLaws
pub mod FrontLaws
