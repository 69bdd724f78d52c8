pub mod Decided
pub mod Firsts
pub mod Reasons
