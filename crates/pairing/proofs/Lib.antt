pub mod Closing
pub mod Going
pub mod Leaving
pub mod Taking
