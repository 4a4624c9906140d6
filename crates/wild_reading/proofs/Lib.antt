pub mod Readers
pub mod RunEnds
pub mod Marks
pub mod Leaves
pub mod Closes
pub mod Families
pub mod Gaps
