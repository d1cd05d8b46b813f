pub mod Columns
pub mod Items
pub mod Scanning
pub mod Laws
