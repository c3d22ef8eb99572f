-- The laws of this room, by what they are about.
pub mod Soundness
pub mod Opening
pub mod Refusals
pub mod Deciding
pub mod Steps
pub mod Counting
pub mod Source
pub mod Promises
