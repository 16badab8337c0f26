pub mod Meeting
pub mod Entering
