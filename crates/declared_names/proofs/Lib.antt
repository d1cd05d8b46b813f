pub mod Again
pub mod Bounding
pub mod Knowing
pub mod NamesOf
pub mod Passing
pub mod Placing
