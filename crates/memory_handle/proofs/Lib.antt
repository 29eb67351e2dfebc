mod Parted
mod Written
mod Placed
