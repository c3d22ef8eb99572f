-- The laws of this room: what a class means over any decimal mark, and what the room promises at the comma.
pub mod Classes
pub mod Promises
