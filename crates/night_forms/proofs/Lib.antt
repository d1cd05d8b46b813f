pub mod Numbers
pub mod Sections
pub mod Parts
pub mod Joined
pub mod Closings
pub mod Named
