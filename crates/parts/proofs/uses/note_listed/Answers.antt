-- By one capability of the CNode more.
use Rattle.std.proofs.Common.{◌==◌, ◌&&◌}
use Rattle.headline.specs.parts.Parts.{changes_by, takes_by}
use Rattle.parts.proofs.Left.{listed-end, listed-first, listed-next}
use Rattle.parts.proofs.uses.note_listed.Goals as goal

pub loop-number-init : goal.loop-number-init
loop-number-init c =
    let image = c.args.image.now in
    let first = listed-first c.args.cnode image.capabilities c.listed_in-listed.result.first c.listed_in-listed.result.end c.listed_in-listed.ensures in
    record {
      sources = first (λ x n. x.source == n) c.args.sources.now;
      takes = first (λ x n. takes_by image x && x.source == n) c.args.takes.now;
      changes = first (λ x n. changes_by image x && x.source == n) c.args.changes.now;
    }

pub loop-number-preserved : goal.loop-number-preserved
loop-number-preserved c =
    let image = c.args.image.now in
    let k = c.loop-number.number in
    let x = c.capability_of.result in
    let next = listed-next c.args.cnode image.capabilities c.listed_in-listed.result.first c.listed_in-listed.result.end c.listed_in-listed.ensures in
    record {
      sources = next (λ x n. x.source == n) k x c.args.sources.now c.loop-number.sources c.note_capability.new.sources c.loop-number.auto.number
          c.loop-number-test.true c.capability_of.ensures c.in_ok-note_capability.ensures.sources c.loop-number.invariant.sources;
      takes = next (λ x n. takes_by image x && x.source == n) k x c.args.takes.now c.loop-number.takes c.note_capability.new.takes c.loop-number.auto.number
          c.loop-number-test.true c.capability_of.ensures c.in_ok-note_capability.ensures.takes c.loop-number.invariant.takes;
      changes = next (λ x n. changes_by image x && x.source == n) k x c.args.changes.now c.loop-number.changes c.note_capability.new.changes
          c.loop-number.auto.number c.loop-number-test.true c.capability_of.ensures c.in_ok-note_capability.ensures.changes c.loop-number.invariant.changes;
    }

pub returns-clause-sources : goal.returns-clause-sources
returns-clause-sources c =
    listed-end c.args.cnode c.args.image.now.capabilities c.listed_in-listed.result.first c.listed_in-listed.result.end c.listed_in-listed.ensures
    (λ x n. x.source == n) c.loop-number.number c.args.sources.now c.loop-number.sources c.loop-number-test.false c.loop-number.invariant.sources

pub returns-clause-takes : goal.returns-clause-takes
returns-clause-takes c =
    listed-end c.args.cnode c.args.image.now.capabilities c.listed_in-listed.result.first c.listed_in-listed.result.end c.listed_in-listed.ensures
    (λ x n. takes_by c.args.image.now x && x.source == n) c.loop-number.number c.args.takes.now c.loop-number.takes c.loop-number-test.false
    c.loop-number.invariant.takes

pub returns-clause-changes : goal.returns-clause-changes
returns-clause-changes c =
    listed-end c.args.cnode c.args.image.now.capabilities c.listed_in-listed.result.first c.listed_in-listed.result.end c.listed_in-listed.ensures
    (λ x n. changes_by c.args.image.now x && x.source == n) c.loop-number.number c.args.changes.now c.loop-number.changes c.loop-number-test.false
    c.loop-number.invariant.changes
