-- By one mapping more.
use Rattle.std.proofs.Common.{◌≡◌, ap, arith}
use Rattle.model.specs.declared.entries.ImageHeader.{ImageHeader}
use Rattle.wellformed.proofs.Named.{named-next, named-none, twice-all, twice-next, twice-none}
use Rattle.wellformed.proofs.mappings.mapped_twice.Goals as goal

pub loop-item-init : goal.loop-item-init
loop-item-init c = record {
  once = named-none (λ f. f.frame) c.args.image.now.frames c.new-once.result c.new-once.ensures;
  twice = twice-none (λ f. f.frame) c.args.image.now.frames c.new-twice.result c.new-twice.ensures;
}

pub loop-item-preserved : goal.loop-item-preserved
loop-item-preserved c =
    let frames = c.args.image.now.frames in
    let n = c.loop-item.item in
    record {
      once = named-next (λ f. f.frame) frames n c.frame.result c.loop-item.once c.note_mapping.new.once c.frame.ensures c.in_ok-note_mapping.ensures.once
          c.loop-item.invariant.once;
      twice = twice-next (λ f. f.frame) frames n c.frame.result c.loop-item.once c.loop-item.twice c.note_mapping.new.twice c.frame.ensures
          c.loop-item.invariant.once c.in_ok-note_mapping.ensures.twice c.loop-item.invariant.twice;
    }

pub returns-clause-twice : goal.returns-clause-twice
returns-clause-twice c =
    let count : c.header_of-item-end.result.frames ≡ c.args.image.now.header.frames = ap (λ (h : ImageHeader). h.frames) c.header_of-item-end.ensures.value in
    twice-all (λ f. f.frame) c.args.image.now.frames c.loop-item.item c.loop-item.twice
    (omega (arith, count, c.header_of-item-end.ensures.counts.frames, c.loop-item-test.false)) c.loop-item.invariant.twice
