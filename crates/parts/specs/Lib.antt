pub mod Numbering
pub mod Rules
pub mod StateBlock
pub mod PartsOf
pub mod Pieces
