-- The third demand, in Demand, and its laws.
pub mod Numbers
pub mod Kept
pub mod Turn
pub mod Loads
pub mod Bytes
pub mod YesLoads
pub mod YesesGiven
pub mod LineRoom
pub mod YesText
pub mod YesPlan
pub mod Reached
pub mod Printed
pub mod Demand
