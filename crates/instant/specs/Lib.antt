pub mod Calendar
pub mod DateTime
pub mod Form
pub mod Instants
pub mod Laws
pub mod Limits
pub mod Reading
