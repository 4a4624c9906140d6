pub mod Escapes
pub mod Pieces
pub mod Closing
pub mod Grammars
pub mod Texts
pub mod Suffixes
pub mod Walks
