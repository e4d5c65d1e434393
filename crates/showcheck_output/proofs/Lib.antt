pub mod AroundLaws
pub mod LengthLaws
pub mod FindingLaws
pub mod HeardLaws
pub mod SaidLaws
