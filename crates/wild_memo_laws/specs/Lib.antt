pub mod Exact
pub mod Running
pub mod Memo
pub mod Nodes
pub mod Sound
