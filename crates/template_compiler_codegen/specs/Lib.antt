pub mod Core
pub mod Expressions
pub mod Statements
pub mod Laws
