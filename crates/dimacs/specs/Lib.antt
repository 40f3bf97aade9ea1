pub mod File
pub mod Written
pub mod Texts
pub mod Rows
pub mod ReadBack
pub mod DimacsCall
pub mod Pages
pub mod Request
