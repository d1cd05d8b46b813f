pub mod Upwards
pub mod Numbers
pub mod Fronts
pub mod Sections
