pub mod Jobs
pub mod Parts
pub mod Closing
pub mod Listings
