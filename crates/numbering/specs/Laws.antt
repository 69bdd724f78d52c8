-- Proofs that the laws of implementations cite. Nothing here has to be believed: each name is proved.
pub mod BitLaws
pub mod HexLaws
pub mod Leasts
pub mod MarkLaws
pub mod ParityLaws
pub mod PlaceLaws
pub mod RangeLaws
pub mod ThreeReads
