pub mod Output
pub mod Run
