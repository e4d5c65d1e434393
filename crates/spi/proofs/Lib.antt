-- Laws of the definitions in specs/.
pub mod CellStepLaws
pub mod SpiLaws
pub mod ShortBurstLaws
pub mod Examples
