pub mod Jobs
pub mod Batches
