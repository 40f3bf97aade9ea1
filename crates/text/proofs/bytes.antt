pub mod Library
pub mod Flags
pub mod Items
