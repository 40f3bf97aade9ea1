pub mod Resets
pub mod OnePass
