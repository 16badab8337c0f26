pub mod Lengths
pub mod Progress
