-- Laws of the definitions in specs/.
pub mod CauseLaws
pub mod FrontLaws
pub mod ReachLaws
pub mod WhyLaws
pub mod Examples
