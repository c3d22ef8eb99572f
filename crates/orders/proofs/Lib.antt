-- The laws of this room, by what they are about.
pub mod Each
pub mod Readings
pub mod Beginning
pub mod Places
pub mod Counting
pub mod FirstLines
pub mod Opening
pub mod Steps
pub mod Answering
pub mod Tallies
pub mod Clean
pub mod Promises
