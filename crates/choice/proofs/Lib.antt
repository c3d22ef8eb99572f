-- The laws of this room, by what they are about.
pub mod Choosing
pub mod Fitting
pub mod Promises
