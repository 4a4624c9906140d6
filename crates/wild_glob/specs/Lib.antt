pub mod Character
pub mod Escape
pub mod Class
pub mod Spelling
pub mod Grammar
pub mod Compiled
pub mod Match
pub mod Walk
