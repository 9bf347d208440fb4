-- The claim about every log.
pub mod Reasons
