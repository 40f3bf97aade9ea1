pub mod ClauseLaws
pub mod Members
pub mod PartRows
pub mod ListPieces
pub mod CutLaws
pub mod CutRaised
pub mod EmitLaws
