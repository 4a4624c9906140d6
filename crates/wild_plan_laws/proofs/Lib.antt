pub mod Sharing
pub mod Spanned
pub mod Laid
pub mod Apart
pub mod Regions
pub mod Listed
pub mod Timely
pub mod Ending
