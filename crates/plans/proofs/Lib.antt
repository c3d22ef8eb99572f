-- The laws of this room, by what they are about.
pub mod Any
pub mod Going
pub mod Pigeonhole
pub mod Orders
pub mod Chains
pub mod Planning
pub mod Passing
pub mod Texts
pub mod Through
pub mod Loads
pub mod Obeying
pub mod Listing
pub mod Judged
pub mod Faults
pub mod Front
pub mod Showing
pub mod Promises
