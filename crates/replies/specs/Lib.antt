-- What the contracts of this room cite, and what they are proved to mean.
pub mod Replies
pub mod Meaning
pub mod Filling
pub mod Steps
