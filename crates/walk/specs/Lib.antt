pub mod StepCall
pub mod Walker
