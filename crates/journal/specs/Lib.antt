pub mod LedgerBook
pub mod Statement
pub mod OverStates
pub mod SoundKept
pub mod Edge
