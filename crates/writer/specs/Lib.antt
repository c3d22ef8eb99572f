-- What the contracts of this room cite, and what they are proved to mean.
pub mod Writing
pub mod Line
pub mod Meaning
pub mod Steps
