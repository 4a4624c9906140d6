pub mod Flags
pub mod Forms
pub mod Number
pub mod Table
