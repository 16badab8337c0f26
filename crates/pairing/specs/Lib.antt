pub mod Leaving
pub mod Pairing
