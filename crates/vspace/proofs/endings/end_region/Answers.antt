-- A page table that is mapped for the region has its pointer in the entry.
use Rattle.std.proofs.Common.{ℕ, ◌≡◌, inr, None, Some, refl, subst}
use Rattle.model.specs.Capabilities.Slots.{Slots}
use Rattle.vspace.specs.Endings.{HasEnded}
use Rattle.vspace.specs.Tables.{table_in}
use Rattle.vspace.proofs.EndingSteps.{ending-less, pointer-found, region-gone}
use Rattle.vspace.proofs.LostMappings.{less-maps}
use Rattle.vspace.proofs.endings.end_region.Goals as goal

pub returns-in_default-clause-slots : goal.returns-in_default-clause-slots
returns-in_default-clause-slots g c = λ y. inr refl

pub returns-in_default-clause-gone : goal.returns-in_default-clause-gone
returns-in_default-clause-gone g c = λ table maps.
    let some : table_in c.mem.result.now c.args.root c.args.region ≡ Some table =
    pointer-found (g.S.SlotMap.slots c.args.store.now) (g.S.SlotStore.memory c.args.store.now) c.mem.result.now c.args.root c.args.region table c.requires.agree
    c.mem.ensures maps in
    let none : None ≡ table_in c.mem.result.now c.args.root c.args.region = c.in_default.ensures.value in
    absurd cc

pub returns-clause-gone : goal.returns-clause-gone
returns-clause-gone g c = λ table maps.
    let old : Slots = g.S.SlotMap.slots c.args.store.now in
    let next : Slots = g.S.SlotMap.slots c.end_at.new.store in
    let before = less-maps old next (ending-less c.args.root old next c.end_at.ensures.slots) c.args.root c.args.region table maps in
    let some : table_in c.mem.result.now c.args.root c.args.region ≡ Some table =
    pointer-found old (g.S.SlotStore.memory c.args.store.now) c.mem.result.now c.args.root c.args.region table c.requires.agree c.mem.ensures before in
    let read : Some c.in-Some.table ≡ table_in c.mem.result.now c.args.root c.args.region = c.in-Some.ensures.value in
    let same : c.in-Some.table ≡ table = cc in
    region-gone next c.args.root c.args.region table (subst (λ (t : ℕ). HasEnded next t c.args.root) same c.end_at.ensures.ended) maps
