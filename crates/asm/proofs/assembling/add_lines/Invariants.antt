use Rattle.std.specs.Prelude.{◌≤◌, MatchOption}
use Rattle.std.specs.Str.Lines.{lines}
use Rattle.asm.proofs.TextsLeft.{ReadLeft}
use Rattle.asm.proofs.assembling.add_lines.Given as goal

-- the line that waits and what is left to read make of the draft what all lines make of the first one
abbrev pub invariant-lines : goal.invariant-lines
invariant-lines l = ReadLeft l.labels l.initial.assembly l.line-iterator l.number l.waiting l.assembly (lines l.fn.text)
    × MatchOption l.waiting (Unit {0}) (λ _. 1 ≤ l.number)
