pub mod Borders
pub mod Cuts
pub mod Sheets
pub mod Recuts
pub mod Seams
pub mod Answers
pub mod Places
