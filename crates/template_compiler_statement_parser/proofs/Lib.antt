pub mod Next
pub mod Less
pub mod Wholes
pub mod Made
pub mod Put
