pub mod BytePlaces
pub mod Laws
pub mod Meaning
pub mod Order
pub mod Pairs
pub mod Places
pub mod Stretches
