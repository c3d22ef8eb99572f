-- The cases, and what it means that they hold.
pub mod Cases
pub mod Further
