mod Turns
mod Sums
