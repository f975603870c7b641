mod Comments
mod FirstLines
mod SameLines
mod Splitting
mod WholeWords
