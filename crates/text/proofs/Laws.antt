pub mod Bytewise
pub mod Slots
pub mod EdgeParts
pub mod Partial
pub mod Keeping
pub mod Accepted
pub mod Cutting
pub mod Written
