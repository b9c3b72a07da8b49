mod Lines
mod Ending
