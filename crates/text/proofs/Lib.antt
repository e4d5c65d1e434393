-- Laws of the definitions in specs/.
pub mod RoomLaws
pub mod DecimalLaws
pub mod HexLaws
pub mod LineLaws
pub mod FindLaws
pub mod Examples
