pub mod Words
pub mod Attribute
pub mod Before
pub mod Clauses
pub mod Tail
pub mod Contents
pub mod Section
pub mod Statement
