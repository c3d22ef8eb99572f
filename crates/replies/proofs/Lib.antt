-- The laws of this room, by what they are about.
pub mod Replying
pub mod Walking
pub mod ReplyText
pub mod Fields
pub mod Filling
pub mod Pieces
pub mod Due
pub mod Sums
pub mod Whole
pub mod Room
pub mod Promises
