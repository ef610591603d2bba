pub mod Answered
pub mod Failures
pub mod Rule
pub mod Wrapper
pub mod Writes
