pub mod PutLaws
pub mod DraftLaws
pub mod EightLaws
pub mod OneCellLaws
pub mod WriteLaws
pub mod TightenLaws
