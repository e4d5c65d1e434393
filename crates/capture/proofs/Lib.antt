-- Laws of the definitions in specs/, and of the loops.
pub mod FileLaws
pub mod DatagramLaws
pub mod TurnLaws
pub mod WriteLaws
pub mod HeardLaws
pub mod WalkLaws
pub mod CaptureLaws
pub mod WrittenLaws
pub mod PassedLaws
pub mod Examples
