pub mod Holding
pub mod Nesting
