pub mod Filling
pub mod Cards
pub mod Fitting
