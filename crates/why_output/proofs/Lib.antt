-- Laws of the definitions in specs/.
pub mod GivenLaws
pub mod HexLaws
pub mod WordsLaws
pub mod PointedLaws
pub mod PacketsLaws
pub mod RoomLaws
pub mod WholeLaws
