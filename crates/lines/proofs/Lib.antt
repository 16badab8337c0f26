pub mod Digits
pub mod Finding
pub mod Rows
pub mod Fields
