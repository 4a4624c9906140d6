pub mod Answer
pub mod Const
pub mod Known
pub mod Marks
pub mod Numbers
pub mod Scope
pub mod Value
