-- What the proof of the entry test cites.
pub mod EntryTest
