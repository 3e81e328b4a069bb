-- Worked examples: the line work and the files that they are about, and what is said of each.
pub mod Drawn
pub mod Files
pub mod Examples
