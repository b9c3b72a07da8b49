mod Counted
mod Demanding
mod Placed
mod Refuted
