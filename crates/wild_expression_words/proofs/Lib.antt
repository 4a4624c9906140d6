pub mod Numbers
pub mod Passing
pub mod Operations
pub mod Calls
pub mod Taken
