pub mod Ages
pub mod OpenDeals
