-- Laws of the definitions in specs/.
pub mod SizeLaws
pub mod ListingLaws
pub mod LayingLaws
pub mod PacketLaws
pub mod TextLaws
