pub mod Feeding
pub mod Headers
pub mod Linear
pub mod Quotients
pub mod Steps
pub mod Sums
pub mod Tables
pub mod Unique
