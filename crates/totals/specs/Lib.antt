pub mod CeilingCall
pub mod TotalsCall
