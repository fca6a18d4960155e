pub mod Checking
pub mod Lone
