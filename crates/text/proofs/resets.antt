pub mod Stages
pub mod ResetsFormed
