pub mod Asking
pub mod Recording
pub mod Second
