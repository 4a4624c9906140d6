pub mod Equality
pub mod Shape
pub mod Visit
