-- The laws of this room, by what they are about.
pub mod FieldReading
pub mod LineReading
pub mod Faults
pub mod Promises
