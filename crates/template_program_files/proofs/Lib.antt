pub mod Named
pub mod Within
pub mod Walking
