-- The paper's whole example, the yeses as a plan, and what is said of what is printed and written.
pub mod Example
pub mod Yeses
pub mod Meaning
