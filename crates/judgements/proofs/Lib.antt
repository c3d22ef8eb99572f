-- The laws of this room, by what they are about.
pub mod JudgementLine
pub mod Promises
