pub mod Contexts
pub mod Refusals
pub mod Told
pub mod Renders
pub mod Settings
pub mod Answers
pub mod Statuses
pub mod Alone
