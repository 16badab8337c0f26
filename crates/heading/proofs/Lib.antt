pub mod SecurityLines
pub mod Heading
