mod Classes
mod Steady
mod Held
mod Others
mod Own
mod Laid
pub mod Started
mod Moves
mod Facts
pub mod PlainSteps
pub mod ExclusiveSteps
pub mod StampedSteps
pub mod StartSteps
pub mod SeatSteps
pub mod Opening
pub mod Closing
