pub mod Reports
pub mod Accepts
