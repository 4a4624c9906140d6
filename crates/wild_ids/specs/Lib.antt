pub mod Alignment
pub mod Calls
pub mod CommonSections
pub mod Entries
pub mod Inverses
pub mod Parts
