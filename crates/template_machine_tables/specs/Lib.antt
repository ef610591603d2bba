pub mod Streams
pub mod Codes
pub mod Stack
pub mod Numbers
pub mod Globals
pub mod GlobalCodes
pub mod RecordCodes
pub mod Places
pub mod Calls

-- what contracts above cite of a crate below
