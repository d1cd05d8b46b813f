pub mod Lays
pub mod Cutting
pub mod Pages
pub mod Within
pub mod Digits
pub mod Rows
