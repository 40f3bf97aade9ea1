pub mod BlockLaws
pub mod Reports
