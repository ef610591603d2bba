pub mod Says
pub mod Labels
