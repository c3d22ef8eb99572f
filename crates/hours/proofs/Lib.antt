-- The laws of this room, by what they are about.
pub mod Scanning
pub mod Spelling
pub mod Promises
