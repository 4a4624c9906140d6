pub mod Device
pub mod Shelf
pub mod Refusal
pub mod Due
pub mod Run
pub mod Answers
