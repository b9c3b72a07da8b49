mod Places
mod Sites
mod Formed
