pub mod Hexadecimal
pub mod Laws
pub mod Least
pub mod Marks
pub mod Parities
pub mod Places
pub mod Ranges
pub mod ThreeTexts
