pub mod Resuming
pub mod Beginning
pub mod Some
pub mod Whole
pub mod Taken
