mod Answering
mod Unprinted
mod Unpacked
mod Mapping
mod Ranging
mod Naming
mod Spreading
