pub mod CountLaws
pub mod GroupLaws
pub mod PartLaws
pub mod EdgeLaws
pub mod CountedList
pub mod PieceBounds
pub mod TableLaws
