mod Limits
mod Bounds
mod Counting
mod Asked
mod Triangle
mod Edges
mod Judged
