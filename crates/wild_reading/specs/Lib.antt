pub mod Position
pub mod Bytes
pub mod Reader
pub mod Lex
pub mod Only
pub mod Family
pub mod Faults
pub mod Gap
