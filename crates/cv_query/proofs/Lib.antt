mod Naming
mod Claiming
mod Failing
