pub mod Words
pub mod Written
pub mod Gathers
pub mod Lays
pub mod Theorems
