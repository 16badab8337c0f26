pub mod Rooms
pub mod Playing
