pub mod Tests
pub mod Texts
pub mod Counts
pub mod Loops
pub mod Sections
pub mod Apart
pub mod Stacks
