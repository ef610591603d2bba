pub mod Codes
pub mod Laws
pub mod Streams
pub mod StreamLaws
