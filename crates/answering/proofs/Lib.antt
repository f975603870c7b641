mod Points
mod Shown
mod Ways
mod Within
