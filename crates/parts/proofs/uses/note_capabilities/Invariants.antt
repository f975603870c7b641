-- What is in the sets, with what the CNodes that are left have.
use Rattle.std.proofs.Common.{◌==◌, ◌&&◌, drop}
use Rattle.headline.specs.parts.Parts.{changes_by, takes_by}
use Rattle.parts.proofs.Left.{AreLeft, some_in}
use Rattle.parts.proofs.uses.note_capabilities.Given as goal

abbrev pub invariant-loop-place : goal.invariant-loop-place
invariant-loop-place l = record {
  sources : AreLeft (some_in l.fn.image.capabilities (λ c n. c.source == n)) l.fn.cnodes (drop l.place l.fn.cnodes) l.fn.sources l.sources;
  takes : AreLeft (some_in l.fn.image.capabilities (λ c n. takes_by l.fn.image c && c.source == n)) l.fn.cnodes (drop l.place l.fn.cnodes) l.fn.takes l.takes;
  changes : AreLeft (some_in l.fn.image.capabilities (λ c n. changes_by l.fn.image c && c.source == n)) l.fn.cnodes (drop l.place l.fn.cnodes) l.fn.changes
      l.changes;
}
