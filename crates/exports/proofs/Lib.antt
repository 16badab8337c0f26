pub mod PublicCalls
pub mod Printing
