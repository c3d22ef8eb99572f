-- What the contract of this room cites, and what it is proved to mean.
pub mod Meaning
pub mod Classes
