pub mod PrintLemmas
pub mod JsonLemmas
pub mod PieceLemmas
pub mod Digits
mod HtmlTexts
mod LaneLemmas
mod RunLemmas
mod UnmarkedTexts
