pub mod Bounds
pub mod Calls
pub mod Formed
pub mod Model
pub mod Refusals
pub mod Runs
