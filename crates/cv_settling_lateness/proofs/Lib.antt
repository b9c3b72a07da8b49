mod Between
mod Branching
mod Descending
mod Keeping
mod Noting
mod Searching
mod Stepping
