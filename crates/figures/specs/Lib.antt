-- The figures and what is true of each.
pub mod Figures
