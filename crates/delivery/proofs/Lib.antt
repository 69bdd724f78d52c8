pub mod Decided
pub mod Found
pub mod Listed
pub mod Refused
pub mod Sharing
pub mod Taking
