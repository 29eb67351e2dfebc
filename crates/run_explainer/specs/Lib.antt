pub mod Events
pub mod Reservations
pub mod Reasons
pub mod Attempts
pub mod Text
pub mod Explaining
pub mod Marks
pub mod inner
