mod Alone
pub mod Chains
pub mod Falls
pub mod Items
pub mod Links
pub mod Trees
pub mod Subscripts
pub mod Stays
