-- That all of them hold.
pub mod Promises
