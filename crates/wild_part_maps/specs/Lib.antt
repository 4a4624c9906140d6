pub mod Calls
pub mod Changes
pub mod Parts
pub mod Starts
