pub mod Nights
pub mod Laws
