-- The laws of this room, by what they are about; Promises has what they come to.
pub mod Steps
pub mod Weights
pub mod Counting
pub mod OneOrder
pub mod Windows
pub mod Gains
pub mod Later
pub mod Upper
pub mod Keeping
pub mod Limit
pub mod Reached
pub mod Promises
