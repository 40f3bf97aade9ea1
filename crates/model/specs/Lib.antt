pub mod Indexed
pub mod Record
pub mod Automaton
pub mod Bounds
pub mod Run
pub mod Form
pub mod Refusal
