-- One slot after another.
use Rattle.std.proofs.Common.{ℕ, ◌≡◌, ◌∙◌, List, Some, true, false, not, sym}
use Rattle.cnode_ops.specs.Marked.{is_marked}
use Rattle.cnode_ops.specs.Refusals.{goes}
use Rattle.cnode_ops.specs.Sets.{listed_in}
use Rattle.cnode_ops.proofs.FullSlots.{before-first, behind-first, fewer-behind, found-member, last-found}
use Rattle.cnode_ops.proofs.MarkedSlots.{marked-all, marked-next}
use Rattle.cnode_ops.proofs.refusals.mark_all.Goals as goal
use Rattle.model.specs.Capabilities.Orders.{next_in}
use Rattle.model.specs.Capabilities.Slots.{Slots}

pub slots-init : goal.slots-init
slots-init g c =
    let slots : Slots = g.S.SlotMap.slots c.args.store.now in
    record {
      known = λ slot is. before-first (λ s. goes slots c.args.set.now s ≡ true) slot is;
      marked = record {
        marked = λ slot is. absurd (let clash : false ≡ true = sym (c.requires slot) ∙ is in cc);
        rest = behind-first (listed_in (g.S.SlotStore.order c.args.store.now) slots c.args.set.now) (goes slots c.args.set.now)
            (λ slot. not (is_marked c.args.marks.now slot));
      };
    }

pub slots-smaller : goal.slots-smaller
slots-smaller g c =
    let slots : Slots = g.S.SlotMap.slots c.args.store.now in
    fewer-behind (listed_in (g.S.SlotStore.order c.args.store.now) slots c.args.set.now) (goes slots c.args.set.now) c.next_removed.ensures.lists c.slots.at
    c.in-Some.slot (sym c.in-Some.is ∙ c.next_removed.ensures.next)

pub slots-preserved : goal.slots-preserved
slots-preserved g c =
    let slots : Slots = g.S.SlotMap.slots c.args.store.now in
    let list : List ℕ = listed_in (g.S.SlotStore.order c.args.store.now) slots c.args.set.now in
    let next : Some c.in-Some.slot ≡ next_in list c.slots.at = sym c.in-Some.is ∙ c.next_removed.ensures.next in
    let member = found-member list (goes slots c.args.set.now) c.next_removed.ensures.lists c.slots.at c.in-Some.slot next in
    record {
      known = λ slot is. last-found (λ s. goes slots c.args.set.now s ≡ true) c.in-Some.slot slot member is;
      marked = marked-next list (goes slots c.args.set.now) c.next_removed.ensures.lists c.slots.marks c.mark.new.self c.slots.at c.in-Some.slot
          c.slots.invariant.marked next member
          c.mark.ensures.own c.mark.ensures.others;
    }

pub returns-in_default : goal.returns-in_default
returns-in_default g c =
    let slots : Slots = g.S.SlotMap.slots c.args.store.now in
    marked-all (listed_in (g.S.SlotStore.order c.args.store.now) slots c.args.set.now) (goes slots c.args.set.now) c.next_removed.ensures.lists c.slots.marks
    c.slots.at c.slots.invariant.marked
    (sym c.in_default.is ∙ c.next_removed.ensures.next)
