pub mod Cases
pub mod Numbered
pub mod Running
pub mod Shown
pub mod Ticks
