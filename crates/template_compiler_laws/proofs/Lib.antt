mod Sizes
mod Depth
mod Names
mod Blocks
mod Weights
mod Expressions
mod Statements
mod Tokens
mod Lengths
mod Spelled
mod Bounds
mod Trees
pub mod RunnableExpressions
pub mod RunnableStatements
