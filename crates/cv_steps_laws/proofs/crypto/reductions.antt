mod Tables
mod Drawn
mod Taken
