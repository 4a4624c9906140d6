pub mod Grammar
pub mod Readings
pub mod Parts
pub mod Chains
pub mod Depths
