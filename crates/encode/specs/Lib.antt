pub mod BlockBytes
pub mod EncodeCall
