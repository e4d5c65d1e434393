-- Laws of the definitions in specs/.
pub mod RuleLaws
pub mod BoolLaws
pub mod ListLaws
pub mod WordLaws
pub mod SpaceLaws
pub mod CaseLaws
pub mod PointerLaws
pub mod InfoLaws
