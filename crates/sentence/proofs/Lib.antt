-- Laws of the definitions in specs/.
pub mod TableLaws
pub mod WholeLaws
