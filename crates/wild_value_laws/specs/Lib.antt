pub mod Related
pub mod Stable
