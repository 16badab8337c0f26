pub mod Good
pub mod Deals
pub mod Offers
pub mod Steps
pub mod Counts
pub mod Demand
