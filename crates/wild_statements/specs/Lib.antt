pub mod Assignment
pub mod Provide
