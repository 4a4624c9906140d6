pub mod Pattern
pub mod Matcher
