pub mod Bounds
mod Days
mod Digits
pub mod Exact
mod Found
pub mod Fronts
mod Near
pub mod Shapes
mod Tenths
pub mod Times
mod Zones
