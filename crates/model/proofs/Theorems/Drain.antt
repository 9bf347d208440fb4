-- The drain: what is claimed of it, in Rule, and what that rests on.
pub mod Key
pub mod Sweep
pub mod Cleanups
pub mod Whole
pub mod Links
pub mod Kept
pub mod Once
pub mod Rule
pub mod Sample
