pub mod Checks
pub mod Division
pub mod Export
pub mod Header
pub mod Refusals
pub mod Superframe
