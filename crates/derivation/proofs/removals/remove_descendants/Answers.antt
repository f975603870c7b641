-- Each descendant that is taken out leaves one fewer.
use Rattle.std.proofs.Common.{ℕ, ◌≡◌, ◌∙◌, ◌<◌, Some, None, length, ap, arith, refl, subst, sym}
use Rattle.model.specs.Capabilities.Orders.{descendants}
use Rattle.model.specs.Shared.Lists.{without}
use Rattle.model.specs.Capabilities.Slots.{Slots, IsFull, is_descendant, spliced}
use Rattle.derivation.proofs.Removed.{IsLeft, all-without, left-after, next-full, next-known, no-descendant, one-fewer, outside-then}
use Rattle.derivation.proofs.removals.remove_descendants.Goals as goal

pub slots-init : goal.slots-init
slots-init g c = record {
  left = record {
    tree = c.next_below-next.ensures.derivation;
    lists = c.next_below-next.ensures.lists;
    first = c.next_below-next.ensures.next;
    rest = λ s. refl;
    closed = λ s none. none;
  };
  bytes = record { size = refl; bytes = λ place none. refl };
}

pub next_below-next-requires-in-Some-clause-full : goal.next_below-next-requires-in-Some-clause-full
next_below-next-requires-in-Some-clause-full g c = λ slot is.
    next-full _ _ _ c.args.root slot (subst (IsLeft _ _ _ c.args.root) (c.in-Some.is ∙ is) c.slots.invariant.left)

pub next_below-next-requires-in-Some-clause-known : goal.next_below-next-requires-in-Some-clause-known
next_below-next-requires-in-Some-clause-known g c = λ slot is.
    next-known _ _ _ c.args.root slot (subst (IsLeft _ _ _ c.args.root) (c.in-Some.is ∙ is) c.slots.invariant.left)

pub splice_out-requires : goal.splice_out-requires
splice_out-requires g c =
    next-full _ _ _ c.args.root c.in-Some.slot (subst (IsLeft _ _ _ c.args.root) c.in-Some.is c.slots.invariant.left)

pub slots-smaller : goal.slots-smaller
slots-smaller g c =
    let slots : Slots = g.S.SlotMap.slots c.slots.store in
    let order = g.S.SlotStore.order c.slots.store in
    let left : IsLeft (g.S.SlotMap.slots c.args.store.now) slots order c.args.root (Some c.in-Some.slot) =
    subst (IsLeft _ slots order c.args.root) c.in-Some.is c.slots.invariant.left in
    let order_is : g.S.SlotStore.order c.splice_out.new.self ≡ without c.in-Some.slot order = c.splice_out.ensures.order in
    let slots_are : g.S.SlotMap.slots c.splice_out.new.self ≡ spliced slots c.in-Some.slot = c.splice_out.ensures.slots in
    let fewer : length (descendants (g.S.SlotStore.order c.splice_out.new.self) (g.S.SlotMap.slots c.splice_out.new.self) c.args.root) < length
    (descendants order slots c.args.root) =
    subst (λ o. length (descendants o (g.S.SlotMap.slots c.splice_out.new.self) c.args.root) < length (descendants order slots c.args.root)) (sym order_is)
    (subst (λ (t : Slots). length (descendants (without c.in-Some.slot order) t c.args.root) < length (descendants order slots c.args.root)) (sym slots_are)
    (one-fewer _ slots order c.args.root c.in-Some.slot left)) in
    fewer

pub slots-preserved : goal.slots-preserved
slots-preserved g c =
    let before : Slots = g.S.SlotMap.slots c.args.store.now in
    let slots : Slots = g.S.SlotMap.slots c.slots.store in
    let order = g.S.SlotStore.order c.slots.store in
    let left : IsLeft before slots order c.args.root (Some c.in-Some.slot) =
    subst (IsLeft before slots order c.args.root) c.in-Some.is c.slots.invariant.left in
    let next = c.next_below-next-in-Some in
    let after = left-after before slots order c.args.root c.in-Some.slot next.result left next.ensures.next in
    record {
      left = subst (λ o. IsLeft before (g.S.SlotMap.slots c.splice_out.new.self) o c.args.root next.result) (sym c.splice_out.ensures.order)
          (subst (λ (t : Slots). IsLeft before t (without c.in-Some.slot order) c.args.root next.result) (sym c.splice_out.ensures.slots) after);
      bytes = outside-then before slots _ _ _ left.closed c.slots.invariant.bytes c.splice_out.ensures.bytes;
    }

pub returns-clause-slots : goal.returns-clause-slots
returns-clause-slots g c =
    let before : Slots = g.S.SlotMap.slots c.args.store.now in
    let slots : Slots = g.S.SlotMap.slots c.slots.store in
    let order = g.S.SlotStore.order c.slots.store in
    all-without before slots order c.args.root (subst (IsLeft before slots order c.args.root) c.in_default.is c.slots.invariant.left)

pub returns-clause-none : goal.returns-clause-none
returns-clause-none g c =
    let before : Slots = g.S.SlotMap.slots c.args.store.now in
    let slots : Slots = g.S.SlotMap.slots c.slots.store in
    let order = g.S.SlotStore.order c.slots.store in
    no-descendant before slots order c.args.root (subst (IsLeft before slots order c.args.root) c.in_default.is c.slots.invariant.left)
