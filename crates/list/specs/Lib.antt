pub mod Lists
pub mod Items
pub mod Clauses
pub mod Assignments
pub mod Demands
pub mod OtherEdges
pub mod SelfCopies
pub mod Labels
