-- What the contracts of this room cite, and what they are proved to mean.
pub mod Reading
pub mod Meaning
pub mod Steps
