pub mod Lots
pub mod Laws
