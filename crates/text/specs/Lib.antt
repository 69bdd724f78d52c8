pub mod AddressNumber
pub mod Bytes
pub mod FieldText
pub mod FullNames
pub mod Nguids
pub mod Widths
