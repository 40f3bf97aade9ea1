pub mod BoundCheck
