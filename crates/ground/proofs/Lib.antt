-- The laws of the shared definitions, each file for one file of specs/, and what the room promises.
pub mod Tests
pub mod Range
pub mod Checks
pub mod Refusals
pub mod Digits
pub mod Buffer
pub mod Writing
pub mod Outcome
pub mod Promises
