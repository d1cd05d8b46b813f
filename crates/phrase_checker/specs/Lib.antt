pub mod Checked
pub mod NotedParts
