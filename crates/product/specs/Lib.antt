pub mod Joint
pub mod Limits
