pub mod Members
pub mod Kinds
pub mod Runs
pub mod Holding
pub mod Segments
pub mod Laws
