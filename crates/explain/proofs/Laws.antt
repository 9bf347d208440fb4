-- Laws of a kernel that passed the entry test, of rows that the check of a node answers, of searches through a table and of the scans of lists.
pub mod Entry
pub mod Found
pub mod Rows
pub mod Scans
