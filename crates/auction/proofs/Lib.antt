pub mod Prices
pub mod Ties
pub mod Most
pub mod Auction
pub mod Lots
pub mod Counting
pub mod Ladder
pub mod Leading
