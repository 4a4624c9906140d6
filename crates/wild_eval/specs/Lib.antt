pub mod Scope
pub mod Addresses
pub mod Slots
pub mod Leaves
pub mod Keeping
pub mod Evaluated
