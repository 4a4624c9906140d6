pub mod Equality
pub mod Matchers
