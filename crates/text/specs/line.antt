pub mod Values
pub mod DueLines
