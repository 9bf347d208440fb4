-- Who is hit if a component leaves: what is claimed of the list, in Rule, and what that rests on.
pub mod Target
pub mod Hit
pub mod Links
pub mod Changed
pub mod Rule
pub mod Sample
