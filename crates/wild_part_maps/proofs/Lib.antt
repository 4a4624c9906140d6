pub mod Between
pub mod Called
pub mod Lists
pub mod Reserved
pub mod Rising
pub mod Sums
pub mod Written
