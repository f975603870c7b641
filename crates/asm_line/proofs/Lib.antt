mod NameBytes
mod ListedLines
mod ListedTexts
mod NumberLaws
mod PlainWords
mod Splitting
mod MeantLines
mod SpellingLaws
pub mod Laws
