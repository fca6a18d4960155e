pub mod Joint
pub mod Stretch
pub mod Sides
pub mod Passed
pub mod Stretched
