pub mod Charges
pub mod Bounds
pub mod Stages
pub mod Steps
pub mod Money
mod Running
mod Written
pub mod Lists
pub mod Listed
pub mod Journals
