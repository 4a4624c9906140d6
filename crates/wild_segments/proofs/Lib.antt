pub mod Longest
pub mod Sharing
pub mod Standing
