pub mod Asked
pub mod Defined
pub mod Entries
pub mod Evaluated
pub mod Given
pub mod Indexed
pub mod Runs
pub mod Slots
