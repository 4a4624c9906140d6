pub mod Dialect
pub mod Identifier
pub mod Literal
pub mod Quotes
pub mod Operators
pub mod Words
