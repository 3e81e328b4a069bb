-- Walks and classes, turnings and their changes, the theorems, and whole numbers as names.
pub mod Orbits
pub mod Turnings
pub mod Theorems
pub mod Whole
