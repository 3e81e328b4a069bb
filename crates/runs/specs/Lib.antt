pub mod Chains
pub mod Runs
pub mod Sheets
pub mod Flatness
pub mod Agreed
