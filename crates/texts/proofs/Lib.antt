-- The laws of this room, by what they are about.
pub mod Lines
pub mod WholeText
pub mod Places
pub mod Promises
