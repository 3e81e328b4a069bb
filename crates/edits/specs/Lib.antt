pub mod Edits
pub mod Asked
