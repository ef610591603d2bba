pub mod Spans
pub mod Held
pub mod Inner
pub mod Reaches
pub mod Tokenizer
pub mod Stream
