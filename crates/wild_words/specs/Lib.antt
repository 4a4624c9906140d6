pub mod Choice
pub mod Options
pub mod SoFar
pub mod Words
