-- The laws of this room, by what they are about.
pub mod PlanLine
pub mod RoundTrip
pub mod Promises
