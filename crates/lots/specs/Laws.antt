-- Proofs that the laws of implementations cite. Nothing here has to be believed: each name is proved.
pub mod LotsWritten
