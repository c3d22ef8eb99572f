-- The laws of this room, by what they are about.
pub mod Refusals
pub mod Promises
