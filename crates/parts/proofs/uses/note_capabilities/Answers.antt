-- By one CNode more.
use Rattle.std.proofs.Common.{◌==◌, ◌&&◌, arith}
use Rattle.headline.specs.parts.Parts.{changes_by, takes_by}
use Rattle.parts.proofs.Left.{cnode-next, cnodes-end}
use Rattle.parts.proofs.uses.note_capabilities.Goals as goal

pub loop-place-preserved : goal.loop-place-preserved
loop-place-preserved c =
    let image = c.args.image.now in
    let cnodes = c.args.cnodes.now in
    let k = c.loop-place.place in
    record {
      sources = cnode-next image.capabilities (λ x n. x.source == n) cnodes k c.at.result c.args.sources.now c.loop-place.sources c.note_listed.new.sources
          c.at.ensures c.in_ok-note_listed.ensures.sources c.loop-place.invariant.sources;
      takes = cnode-next image.capabilities (λ x n. takes_by image x && x.source == n) cnodes k c.at.result c.args.takes.now c.loop-place.takes
          c.note_listed.new.takes c.at.ensures c.in_ok-note_listed.ensures.takes c.loop-place.invariant.takes;
      changes = cnode-next image.capabilities (λ x n. changes_by image x && x.source == n) cnodes k c.at.result c.args.changes.now c.loop-place.changes
          c.note_listed.new.changes c.at.ensures c.in_ok-note_listed.ensures.changes c.loop-place.invariant.changes;
    }

pub returns-clause-sources : goal.returns-clause-sources
returns-clause-sources c =
    cnodes-end c.args.image.now.capabilities (λ x n. x.source == n) c.args.cnodes.now c.loop-place.place c.args.sources.now c.loop-place.sources
    (omega (arith, c.loop-place-test.false, c.len-place-end.ensures)) c.loop-place.invariant.sources

pub returns-clause-takes : goal.returns-clause-takes
returns-clause-takes c =
    cnodes-end c.args.image.now.capabilities (λ x n. takes_by c.args.image.now x && x.source == n) c.args.cnodes.now c.loop-place.place c.args.takes.now
    c.loop-place.takes (omega (arith, c.loop-place-test.false, c.len-place-end.ensures)) c.loop-place.invariant.takes

pub returns-clause-changes : goal.returns-clause-changes
returns-clause-changes c =
    cnodes-end c.args.image.now.capabilities (λ x n. changes_by c.args.image.now x && x.source == n) c.args.cnodes.now c.loop-place.place c.args.changes.now
    c.loop-place.changes (omega (arith, c.loop-place-test.false, c.len-place-end.ensures)) c.loop-place.invariant.changes
