-- The laws of this room, by what they are about.
pub mod Writing
pub mod Line
pub mod Answers
pub mod Promises
