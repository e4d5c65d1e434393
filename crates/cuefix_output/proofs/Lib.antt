-- Laws of the definitions in specs/.
pub mod AccountLaws
pub mod LookLaws
pub mod Examples
