-- What the crates above use of these proofs.
pub use Rattle.asm_line.proofs.ListedLines.{Reads, next-term, promised-says, terms-say}
pub use Rattle.asm_line.proofs.ListedTexts.{reads}
pub use Rattle.asm_line.proofs.NumberLaws.{number-decimal}
pub use Rattle.asm_line.proofs.PlainWords.{is_plain, line-all}
pub use Rattle.asm_line.proofs.MeantLines.{listed-said}
pub use Rattle.asm_line.proofs.SpellingLaws.{spelled-once, spelling-spells}
