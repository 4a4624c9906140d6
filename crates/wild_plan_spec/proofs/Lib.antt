pub mod Ordered
pub mod RowOrder
pub mod Standing
pub mod Unique
