pub mod Related
pub mod Stable
pub mod Statements
