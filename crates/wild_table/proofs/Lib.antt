pub mod Fields
pub mod Numbers
pub mod Reached
pub mod Tables
