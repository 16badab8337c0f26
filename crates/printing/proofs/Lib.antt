pub mod Buffer
pub mod Decimals
pub mod Digits
pub mod Lines
pub mod Runs
