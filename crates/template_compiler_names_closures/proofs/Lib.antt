mod Alone
mod Declared
mod Ordered
mod Rounds
mod Taking
