pub mod Counted
pub mod PartCounts
pub mod KnownCounts
pub mod CountsCall
pub mod Tables
