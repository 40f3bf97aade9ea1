pub mod EmitCall
pub mod Written
pub mod Pairs
pub mod Writable
pub mod Compared
pub mod Cut
