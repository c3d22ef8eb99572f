-- What the contracts of this room cite, and what they are proved to mean.
pub mod Lines
pub mod Meaning
