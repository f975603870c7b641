-- What is in the sets, with what is left of the capabilities.
use Rattle.std.proofs.Common.{◌==◌, ◌&&◌, drop}
use Rattle.headline.specs.parts.Parts.{changes_by, takes_by}
use Rattle.parts.proofs.Left.{AreLeft}
use Rattle.parts.proofs.uses.note_listed.Given as goal

abbrev pub invariant-loop-number : goal.invariant-loop-number
invariant-loop-number l = record {
  sources : AreLeft (λ c n. c.cnode == l.cnode && c.source == n) l.fn.image.capabilities (drop l.number l.fn.image.capabilities) l.fn.sources l.sources;
  takes : AreLeft (λ c n. c.cnode == l.cnode && (takes_by l.fn.image c && c.source == n)) l.fn.image.capabilities (drop l.number l.fn.image.capabilities)
      l.fn.takes l.takes;
  changes : AreLeft (λ c n. c.cnode == l.cnode && (changes_by l.fn.image c && c.source == n)) l.fn.image.capabilities (drop l.number l.fn.image.capabilities)
      l.fn.changes l.changes;
}
