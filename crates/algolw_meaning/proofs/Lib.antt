pub mod Within
pub mod Found
pub mod Composing
pub mod Results
pub mod Charging
