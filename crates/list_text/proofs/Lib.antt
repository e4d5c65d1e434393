-- Laws of the definitions in specs/, and of the loops.
pub mod ReadBackLaws
pub mod SameListLaws
pub mod WriteLaws
pub mod WrittenExamples
