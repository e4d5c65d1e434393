-- Laws of the definitions in specs/.
pub mod FeedLaws
pub mod Examples
