pub mod Claims
pub mod Core
pub mod Events
pub mod Order
pub mod Kept
pub mod Sums
pub mod Laws
