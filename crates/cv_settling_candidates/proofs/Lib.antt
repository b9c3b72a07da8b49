mod Bounds
mod Citing
mod Few
mod Going
mod Instances
mod Lists
mod Reasoned
mod Truths
