pub mod Command
pub mod Output
pub mod Stand
