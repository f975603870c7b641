mod Counted
mod Loops
