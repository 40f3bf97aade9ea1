pub mod Sets
pub mod OnePass
pub mod Written
