-- The table itself ends, and then the page table of one region after another.
use Rattle.std.proofs.Common.{◌∙◌, ℕ, subst, arith}
use Rattle.model.specs.Capabilities.Slots.{Slots}
use Rattle.vspace.specs.Endings.{HasEnded}
use Rattle.vspace.proofs.BytesBeside.{beside-then, fewer-less}
use Rattle.vspace.proofs.EndedRoots.{ended-root}
use Rattle.vspace.proofs.EndedTables.{ended-gone}
use Rattle.vspace.proofs.EndingSteps.{ending-all, ending-less, ending-then, less-ended, less-regions}
use Rattle.vspace.proofs.endings.end_tables.Goals as goal

pub regions-init : goal.regions-init
regions-init g c = record {
  ending = c.end_at.ensures.slots;
  itself = subst (λ (table : ℕ). HasEnded (g.S.SlotMap.slots c.end_at.new.store) table c.args.offset) c.from.ensures c.end_at.ensures.ended;
  passed = λ region less table maps. omega (arith, less);
  bytes = c.end_at.ensures.bytes;
  order = c.end_at.ensures.order;
  agree = c.end_at.ensures.agree;
}

pub regions-preserved : goal.regions-preserved
regions-preserved g c =
    let old : Slots = g.S.SlotMap.slots c.args.store.now in
    let now : Slots = g.S.SlotMap.slots c.regions.store in
    let next : Slots = g.S.SlotMap.slots c.end_region.new.store in
    let less = ending-less c.args.offset now next c.end_region.ensures.slots in
    record {
      ending = ending-then c.args.offset old now next c.regions.invariant.ending c.end_region.ensures.slots;
      itself = less-ended now next less c.args.offset c.args.offset c.regions.invariant.itself;
      passed = less-regions now next less c.args.offset c.regions.region c.regions.invariant.passed c.end_region.ensures.gone;
      bytes = beside-then old now (g.S.SlotStore.memory c.args.store.now) (g.S.SlotStore.memory c.regions.store) (g.S.SlotStore.memory c.end_region.new.store)
          (fewer-less old now (ending-less c.args.offset old now c.regions.invariant.ending)) c.regions.invariant.bytes c.end_region.ensures.bytes;
      order = c.end_region.ensures.order ∙ c.regions.invariant.order;
      agree = c.end_region.ensures.agree;
    }

pub returns-clause-slots : goal.returns-clause-slots
returns-clause-slots g c =
    ending-all (g.S.SlotMap.slots c.args.store.now) (g.S.SlotMap.slots c.regions.store) (g.S.SlotStore.memory c.args.store.now)
    (g.S.SlotStore.memory c.regions.store) c.args.offset c.requires.agree c.regions.invariant.agree c.regions.invariant.ending c.regions.invariant.itself
    (λ region less. c.regions.invariant.passed region (omega (arith, less, c.regions-test.false)))

pub returns-clause-gone : goal.returns-clause-gone
returns-clause-gone g c =
    ended-gone (g.S.SlotMap.slots c.args.store.now) (g.S.SlotMap.slots c.regions.store) c.args.offset (returns-clause-slots g c)

pub returns-clause-roots : goal.returns-clause-roots
returns-clause-roots g c = λ unnamed.
    ended-root (g.S.SlotMap.slots c.args.store.now) (g.S.SlotMap.slots c.regions.store) c.args.offset unnamed (returns-clause-slots g c)
