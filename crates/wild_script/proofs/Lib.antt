pub mod Braces
pub mod FirstVersion
pub mod Nests
pub mod Shown
pub mod Trees
