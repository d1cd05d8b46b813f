pub mod Texts
pub mod Listing
pub mod Writing
pub mod Behind
pub mod Laws
pub mod Tallies
