use Rattle.std.specs.Str.Lines.{lines}
use Rattle.asm.proofs.TextsLeft.{SearchLeft}
use Rattle.asm.proofs.labels.search_text.Given as goal

-- what is left to search finds what searching all would
abbrev pub invariant-lines : goal.invariant-lines
invariant-lines l = SearchLeft l.initial.search l.line-iterator l.number l.search (lines l.fn.text)
