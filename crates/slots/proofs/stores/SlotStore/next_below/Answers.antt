-- The first one after a slot is the next full one; the descendants among them are those of the part.
use Rattle.std.proofs.Common.{◌≡◌, ◌∙◌, ◌<◌, true, false, Some, [], ◌∷◌, filter, cond, length, sym, ap, subst, arith}
use Rattle.model.specs.Capabilities.Slots.{Slots, IsFull}
use Rattle.model.specs.Capabilities.Orders.{first_of}
use Rattle.model.specs.Capabilities.Slots.{is_descendant}
use Rattle.model.proofs.Ancestors.{full-open, listed-full, order-once}
use Rattle.model.proofs.Orders.{after-behind, after-filter, behind, behind-step, first-none, first-some, times-behind}
use Rattle.slots.proofs.stores.SlotStore.next_below.Goals as goal

pub slots-init : goal.slots-init
slots-init g c =
    let slots : Slots = g.Self.SlotMap.slots c.args.self.now in
    let order = g.Self.SlotStore.order c.args.self.now in
    record {
      full = c.requires.full;
      rest = sym (after-filter (is_descendant slots c.args.root) order c.args.previous c.requires.known);
    }

pub returns-in_default-clause-next : goal.returns-in_default-clause-next
returns-in_default-clause-next g c =
    let slots : Slots = g.Self.SlotMap.slots c.args.self.now in
    let order = g.Self.SlotStore.order c.args.self.now in
    let none : behind order c.slots.at ≡ [] = first-none _ (sym (after-behind order c.slots.at) ∙ sym c.next_full.ensures.next ∙ c.in_default.is) in
    sym (ap (λ l. first_of (filter (is_descendant slots c.args.root) l)) none) ∙ c.slots.invariant.rest

pub descends-requires : goal.descends-requires
descends-requires g c =
    let slots : Slots = g.Self.SlotMap.slots c.args.self.now in
    let order = g.Self.SlotStore.order c.args.self.now in
    let found = first-some _ c.in-Some.slot (sym (after-behind order c.slots.at) ∙ sym c.next_full.ensures.next ∙ c.in-Some.is) in
    full-open slots c.in-Some.slot (listed-full order slots c.in-Some.slot c.next_full.ensures.lists
    (times-behind order c.slots.at c.in-Some.slot found.0 found.1))

pub returns-then-descends-clause-next : goal.returns-then-descends-clause-next
returns-then-descends-clause-next g c =
    let slots : Slots = g.Self.SlotMap.slots c.args.self.now in
    let order = g.Self.SlotStore.order c.args.self.now in
    let test = is_descendant slots c.args.root in
    let found = first-some _ c.in-Some.slot (sym (after-behind order c.slots.at) ∙ sym c.next_full.ensures.next ∙ c.in-Some.is) in
    let part = filter test found.0 in
    let yes : test c.in-Some.slot ≡ true = sym c.descends.ensures.test ∙ c.if-descends.true in
    sym (ap (λ b. first_of (cond b (c.in-Some.slot ∷ part) part)) yes) ∙ sym (ap (λ l. first_of (filter test l)) found.1) ∙ c.slots.invariant.rest

pub returns-then-descends-clause-found_full : goal.returns-then-descends-clause-found_full
returns-then-descends-clause-found_full g c =
    let slots : Slots = g.Self.SlotMap.slots c.args.self.now in
    let order = g.Self.SlotStore.order c.args.self.now in
    let found = first-some _ c.in-Some.slot (sym (after-behind order c.slots.at) ∙ sym c.next_full.ensures.next ∙ c.in-Some.is) in
    listed-full order slots c.in-Some.slot c.next_full.ensures.lists (times-behind order c.slots.at c.in-Some.slot found.0 found.1)

pub slots-smaller : goal.slots-smaller
slots-smaller g c =
    let slots : Slots = g.Self.SlotMap.slots c.args.self.now in
    let order = g.Self.SlotStore.order c.args.self.now in
    let found = first-some _ c.in-Some.slot (sym (after-behind order c.slots.at) ∙ sym c.next_full.ensures.next ∙ c.in-Some.is) in
    let step = behind-step order c.slots.at c.in-Some.slot found.0 (order-once order slots c.next_full.ensures.lists) found.1 in
    let fewer : length (behind order (Some c.in-Some.slot)) < length (behind order c.slots.at) = omega (arith, ap length step, ap length found.1) in
    fewer

pub slots-preserved : goal.slots-preserved
slots-preserved g c =
    let slots : Slots = g.Self.SlotMap.slots c.args.self.now in
    let order = g.Self.SlotStore.order c.args.self.now in
    let test = is_descendant slots c.args.root in
    let found = first-some _ c.in-Some.slot (sym (after-behind order c.slots.at) ∙ sym c.next_full.ensures.next ∙ c.in-Some.is) in
    let full : IsFull slots c.in-Some.slot = listed-full order slots c.in-Some.slot c.next_full.ensures.lists
    (times-behind order c.slots.at c.in-Some.slot found.0 found.1) in
    let step = behind-step order c.slots.at c.in-Some.slot found.0 (order-once order slots c.next_full.ensures.lists) found.1 in
    let part = filter test found.0 in
    let no : test c.in-Some.slot ≡ false = sym c.descends.ensures.test ∙ c.if-descends.false in
    record {
      full = λ slot is. let same : c.in-Some.slot ≡ slot = cc in subst (IsFull slots) same full;
      rest = ap (λ l. first_of (filter test l)) step
          ∙ sym (ap (λ b. first_of (cond b (c.in-Some.slot ∷ part) part)) no) ∙ sym (ap (λ l. first_of (filter test l)) found.1) ∙ c.slots.invariant.rest;
    }
