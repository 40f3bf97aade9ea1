pub mod ItemLaws
pub mod Calls
pub mod Laws
