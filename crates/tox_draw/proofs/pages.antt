mod PlainLetters
mod Shown
mod Drawn
mod Kept
mod Linked
mod Sorted
