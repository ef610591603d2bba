pub mod Tree
pub mod View
pub mod Places
pub mod Kinds
pub mod CallView
pub mod NodePlaces
pub mod ExpressionPlaces
