-- What is in the set, with what is left of the lines.
use Rattle.std.proofs.Common.{◌+◌, ◌==◌, ◌&&◌, drop}
use Rattle.std.specs.List.{enumerate_from}
use Rattle.model.specs.Acceptance.ThreadRules.{is_member}
use Rattle.model.specs.Images.Described.{numbered}
use Rattle.parts.proofs.Left.{AreLeft}
use Rattle.parts.proofs.uses.note_lines.Given as goal

abbrev pub invariant-loop-number : goal.invariant-loop-number
invariant-loop-number l =
    AreLeft (λ i n. is_member (l.fn.image.header.objects + i.0) l.fn.sources && (i.1).notification == n) (numbered l.fn.image.interrupts)
    (enumerate_from l.number (drop l.number l.fn.image.interrupts)) l.fn.changes l.changes
