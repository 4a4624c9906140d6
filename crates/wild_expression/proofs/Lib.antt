pub mod Weights
pub mod Layers
pub mod Positions
pub mod Shorter
pub mod ChainLists
pub mod Free
pub mod Deep
pub mod Depths
