pub mod Ascii
pub mod Bytes
pub mod Faulty
pub mod Absorbing
