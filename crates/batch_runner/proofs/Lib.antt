pub mod Progressing
pub mod Serving
pub mod Summaries
