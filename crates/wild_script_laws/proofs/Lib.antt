pub mod Rises
pub mod Sections
pub mod Commands
