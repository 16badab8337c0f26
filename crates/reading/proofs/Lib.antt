pub mod LineEnds
pub mod Tags
pub mod MemberLines
pub mod Groups
pub mod FirstCommand
pub mod Yields
pub mod OneAfterAnother
