-- Proofs that the laws of implementations cite. Nothing here has to be believed: each name is proved.
pub mod Numbered
pub mod Ordered
pub mod Paired
pub mod Seen
pub mod Stretched
