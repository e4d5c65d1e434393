-- Laws of the definitions in specs/.
pub mod ReadingLaws
mod WritingLaws
