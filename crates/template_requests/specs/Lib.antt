pub mod Words
pub mod Members
pub mod Templates
pub mod Says
pub mod Faults
pub mod Views
pub mod Failures
pub mod Syntaxes
