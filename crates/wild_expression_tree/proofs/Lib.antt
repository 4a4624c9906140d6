pub mod Folded
pub mod Parts
pub mod Rebuilt
pub mod Visited
