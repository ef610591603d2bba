pub mod Ranks
pub mod Opens
pub mod Shrinks
pub mod TemplateShrinks
pub mod Readings
pub mod Stops
pub mod Complete
pub mod Sound
pub mod ReaderLaws
mod Rows
pub mod TemplatesComplete
pub mod TemplatesSound
pub mod TemplateLaws
mod TemplateRows
mod First
mod Wholes
pub mod Last
pub mod Pushes
pub mod GrammarLaws
pub mod TemplateGrammarLaws
