-- What the theorem of this room speaks of, and what its proof computes.
pub mod Plans
pub mod Keeping
