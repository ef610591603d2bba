mod Good
mod Held
mod Ending
mod Rendered
