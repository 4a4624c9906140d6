pub mod Outcomes
pub mod Rule
pub mod Taking
pub mod Making
pub mod Lookup
pub mod Unnamed
pub mod Index
