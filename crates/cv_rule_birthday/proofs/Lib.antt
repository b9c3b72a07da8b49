mod Changes
mod Equated
mod Planned
mod Roots
mod Sizes
mod WorkedBirthdays
