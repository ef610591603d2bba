pub mod Kinds
pub mod Comparisons
pub mod Numbers
pub mod Letters
pub mod Identity
pub mod Tests
