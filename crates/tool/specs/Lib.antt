pub mod AcceptedTexts
pub mod SafeRuns
