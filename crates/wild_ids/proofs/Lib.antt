pub mod Changed
pub mod Exponents
pub mod Mapped
pub mod Multiples
pub mod Numbers
