pub mod TextCall
pub mod PairCall
