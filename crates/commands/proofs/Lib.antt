pub mod Rounds
pub mod WithRoom
pub mod Placing
pub mod Carrying
