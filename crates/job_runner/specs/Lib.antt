pub mod Compiled
pub mod Counted
pub mod Noting
pub mod Preparing
pub mod Reading
pub mod Sections
pub mod Shown
