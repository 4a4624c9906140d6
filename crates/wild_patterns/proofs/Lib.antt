pub mod Sorts
