pub mod Names
pub mod Among
pub mod Dotted
pub mod Goes
pub mod Enclosed
