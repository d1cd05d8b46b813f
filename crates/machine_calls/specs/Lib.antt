pub mod Found
pub mod Fitting
