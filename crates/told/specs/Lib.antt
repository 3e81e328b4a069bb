pub mod Tells
pub mod Passed
pub mod Theorems
