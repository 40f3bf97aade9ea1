pub mod Parts
pub mod TimesSet
pub mod Listing
pub mod Stages
pub mod UpdatesFormed
pub mod OrderFormed
