pub mod Endings
pub mod Streams
pub mod Statuses
pub mod Unfailing
