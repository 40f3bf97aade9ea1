pub mod Store
pub mod Progress
pub mod Lines
pub mod Sequence
pub mod Readings
