-- Laws of the definitions in specs/.
pub mod MaskLaws
pub mod FloatLaws
pub mod ExactLaws
pub mod ReadingLaws
pub mod ScaleLaws
pub mod FieldReadingLaws
pub mod Examples
