mod Telling
mod Filling
mod Placing
mod Deciding
