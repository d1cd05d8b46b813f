pub mod Results
mod Takings
