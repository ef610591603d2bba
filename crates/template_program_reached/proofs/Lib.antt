pub mod Names
pub mod Texts
pub mod Under
pub mod Telling
pub mod Marking
pub mod Searching
pub mod Sifting
