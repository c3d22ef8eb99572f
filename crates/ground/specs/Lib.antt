-- The definitions that several rooms share, each file for one thing of the paper.
pub mod Refusal
pub mod Range
pub mod Limits
pub mod Spelling
pub mod Digits
pub mod Buffer
pub mod Outcome
pub mod Text
