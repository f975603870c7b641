mod HeaderSpellings
mod Lists
mod SpellingLaws
mod WholeFits
