pub mod Agreed
pub mod Exact
pub mod Marks
pub mod Nodes
pub mod Refit
pub mod Slots
pub mod Stays
pub mod Steps
