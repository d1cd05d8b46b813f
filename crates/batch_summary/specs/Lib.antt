pub mod Laws
pub mod Summary
pub mod Tally
