pub mod Laws
pub mod Ladder
