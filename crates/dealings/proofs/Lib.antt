pub mod Asking
pub mod Offering
pub mod Recording
pub mod Second
