pub mod Filters
pub mod Json
pub mod Markup
pub mod Pieces
pub mod Urls
pub mod Queries
pub mod Attributes
pub mod Elements
