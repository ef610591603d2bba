pub mod Listed
pub mod Spine
pub mod Left
pub mod Bodies
pub mod Kinds
pub mod Within
