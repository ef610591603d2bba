pub mod Taking
mod Topping
mod Counting
