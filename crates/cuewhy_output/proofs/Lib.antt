-- Laws of the definitions in specs/.
pub mod WordingLaws
pub mod SizeLaws
pub mod SaidLaws
