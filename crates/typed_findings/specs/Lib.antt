pub mod ClassView
pub mod Findings
pub mod Noted
pub mod Taking
