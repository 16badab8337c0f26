pub mod Text
pub mod Finding
pub mod Forms
pub mod Line
