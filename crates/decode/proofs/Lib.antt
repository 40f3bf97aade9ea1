pub mod Bytes
pub mod Reports
pub mod Claims
