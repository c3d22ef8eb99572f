-- What the contracts of this room cite, and what they are proved to mean.
pub mod BestFit
pub mod Meaning
