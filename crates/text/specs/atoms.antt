pub mod Atoms
pub mod OnePass
