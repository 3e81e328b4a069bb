-- What the definitions compute to on the figures.
pub mod Seen
