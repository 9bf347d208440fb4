pub mod Gathered
pub mod Log
pub mod Played
pub mod Players
pub mod Printed
pub mod Samples
pub mod Shifts
