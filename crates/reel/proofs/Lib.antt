pub mod Changing
pub mod Laying
pub mod LettingGo
pub mod Looking
pub mod Putting
pub mod Rounds
pub mod Ticking
