-- Laws of guards, and of what they keep.
pub mod RangeLaws
pub mod PairsLaws
pub mod BlockLaws
pub mod PlaceLaws
pub mod GuardedLaws
pub mod BurstLaws
pub mod SparedLaws
pub mod ListLaws
pub mod VettedLaws
pub mod Examples
