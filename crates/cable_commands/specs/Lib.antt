pub mod Cables
pub mod Calls
pub mod Laying
pub mod Lending
pub mod Reading
pub mod LaidFormed
