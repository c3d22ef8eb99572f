-- What the contracts of this room cite, and what they are proved to mean.
pub mod Answers
pub mod Meaning
pub mod History
pub mod Steps
