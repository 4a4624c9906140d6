pub mod Fault
pub mod InputFlags
pub mod SegmentNames
pub mod Target
