pub mod Causes
pub mod Pace
pub mod Supply
pub mod Store
pub mod Counted
