-- The laws of this room, by what they are about.
pub mod Cutting
pub mod Words
pub mod Splits
pub mod Found
pub mod Promises
