pub mod Arrays
pub mod Words
pub mod Cells
pub mod Links
pub mod Stores
pub mod Held
pub mod Displays
pub mod Placing
