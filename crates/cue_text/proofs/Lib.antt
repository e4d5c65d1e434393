-- Laws of the definitions in specs/, and of the loops.
pub mod WordLaws
pub mod NumberLaws
pub mod KnownLaws
pub mod SaidLaws
pub mod RefusalLaws
pub mod WalkLaws
pub mod Examples
pub mod CueLaws
pub mod ShowLaws
pub mod AssembleLaws
pub mod FaultLaws
