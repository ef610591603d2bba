mod Places
pub mod Advancing
pub mod Streams
pub mod Restarts
pub mod Wrapping
pub mod Doing
mod Finding
pub mod Itself
mod Within
mod Lasting
mod Parts
pub mod Turned
mod Followed
mod Entered
mod Choosing
pub mod Failing
pub mod Stretching
mod Onward
mod Following
mod Calling
mod Loading
mod Beginnings
