pub mod SizeLaws
pub mod Cutting
