pub mod Folding
pub mod Named
