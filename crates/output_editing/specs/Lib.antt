pub mod Layout
pub mod Cuts
pub mod Written
pub mod Page
pub mod Held
pub mod Laws
