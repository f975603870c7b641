pub mod Answers
pub mod Tables
pub mod TableAnswers
pub mod Regions
pub mod Endings
pub mod Kept
pub mod Agreement
