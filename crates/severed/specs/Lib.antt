pub mod Severed
pub mod Shows
