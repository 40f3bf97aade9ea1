pub mod Joined
pub mod Moves
pub mod Composed
pub mod ComposeCall
pub mod Parts
