-- Who shares the object beside the root's descendants is after the slot that was looked at last, or nobody does.
use Rattle.std.proofs.Common.{◌≡◌, ◌≢◌, ◌∙◌, ◌<◌, true, false, Some, None, [], ◌∷◌, length, sym, ap, subst, arith}
use Rattle.model.specs.Capabilities.CapabilityKinds.{object_of}
use Rattle.model.specs.Capabilities.Slots.{IsFull, Slots, is_descendant}
use Rattle.model.specs.Shared.Lists.{times_in}
use Rattle.model.proofs.Ancestors.{full-open, listed-full, order-once}
use Rattle.model.proofs.Orders.{after-behind, behind, behind-step, first-none, first-some, times-behind}
use Rattle.slots.specs.Kin.{object_at}
use Rattle.slots.proofs.Families.{beside-so, later, so-beside}
use Rattle.slots.proofs.stores.SlotStore.is_shared_beside.Goals as goal

pub returns-in_default-clause-shared : goal.returns-in_default-clause-shared
returns-in_default-clause-shared g c = λ is. absurd (let clash : false ≡ true = is in cc)

pub returns-in_default-clause-alone : goal.returns-in_default-clause-alone
returns-in_default-clause-alone g c = λ _ shared.
    absurd (let clash : None ≡ Some shared.offset = sym c.in_default.is ∙ c.object_of.ensures ∙ ap object_of c.capability.ensures.value ∙ shared.own in cc)

pub returns-in_default-next_full-clause-alone : goal.returns-in_default-next_full-clause-alone
returns-in_default-next_full-clause-alone g c = λ _ shared.
    let slots : Slots = g.Self.SlotMap.slots c.args.self.now in
    let order = g.Self.SlotStore.order c.args.self.now in
    let none : behind order c.slots.at ≡ [] = first-none _ (sym (after-behind order c.slots.at) ∙ sym c.next_full.ensures.next ∙ c.in_default-next_full.is) in
    let own : object_at slots c.args.slot ≡ Some c.in-Some.offset = ap object_of (sym c.capability.ensures.value) ∙ sym c.object_of.ensures ∙ c.in-Some.is in
    let there : 0 < times_in (behind order c.slots.at) shared.other =
    c.slots.invariant.rest c.next_full.ensures.lists shared.other shared.beside (shared.names ∙ sym shared.own ∙ own) in
    absurd (omega (arith, there, ap (λ l. times_in l shared.other) none))

pub descends-is_below-requires : goal.descends-is_below-requires
descends-is_below-requires g c =
    let slots : Slots = g.Self.SlotMap.slots c.args.self.now in
    let order = g.Self.SlotStore.order c.args.self.now in
    let other = c.in-Some-next_full.other in
    let found = first-some _ other (sym (after-behind order c.slots.at) ∙ sym c.next_full.ensures.next ∙ c.in-Some-next_full.is) in
    full-open slots other (listed-full order slots other c.next_full.ensures.lists (times-behind order c.slots.at other found.0 found.1))

pub returns-then-names_beside-clause-shared : goal.returns-then-names_beside-clause-shared
returns-then-names_beside-clause-shared g c = λ _.
    let slots : Slots = g.Self.SlotMap.slots c.args.self.now in
    let other = c.in-Some-next_full.other in
    let own : object_at slots c.args.slot ≡ Some c.in-Some.offset = ap object_of (sym c.capability.ensures.value) ∙ sym c.object_of.ensures ∙ c.in-Some.is in
    let parts = beside-so c.object_of-in-slots.result c.in-Some.offset c.descends-is_below.result (sym c.names_beside.ensures ∙ c.if-names_beside.true) in
    record {
      offset = c.in-Some.offset;
      own = own;
      other = other;
      beside = sym c.descends-is_below.ensures.test ∙ parts.0;
      names = ap object_of (sym c.capability-in-slots.ensures.value) ∙ sym c.object_of-in-slots.ensures ∙ parts.1;
    }

pub slots-smaller : goal.slots-smaller
slots-smaller g c =
    let slots : Slots = g.Self.SlotMap.slots c.args.self.now in
    let order = g.Self.SlotStore.order c.args.self.now in
    let other = c.in-Some-next_full.other in
    let found = first-some _ other (sym (after-behind order c.slots.at) ∙ sym c.next_full.ensures.next ∙ c.in-Some-next_full.is) in
    let step = behind-step order c.slots.at other found.0 (order-once order slots c.next_full.ensures.lists) found.1 in
    let fewer : length (behind order (Some other)) < length (behind order c.slots.at) = omega (arith, ap length step, ap length found.1) in
    fewer

pub slots-preserved : goal.slots-preserved
slots-preserved g c =
    let slots : Slots = g.Self.SlotMap.slots c.args.self.now in
    let order = g.Self.SlotStore.order c.args.self.now in
    let other = c.in-Some-next_full.other in
    let found = first-some _ other (sym (after-behind order c.slots.at) ∙ sym c.next_full.ensures.next ∙ c.in-Some-next_full.is) in
    let full : IsFull slots other = listed-full order slots other c.next_full.ensures.lists (times-behind order c.slots.at other found.0 found.1) in
    let step = behind-step order c.slots.at other found.0 (order-once order slots c.next_full.ensures.lists) found.1 in
    let names : c.object_of-in-slots.result ≡ object_at slots other = c.object_of-in-slots.ensures ∙ ap object_of c.capability-in-slots.ensures.value in
    record {
      full = λ slot is. let same : other ≡ slot = cc in subst (IsFull slots) same full;
      rest = λ lists s beside has.
          let was : 0 < times_in (other ∷ found.0) s = subst (λ l. 0 < times_in l s) found.1 (c.slots.invariant.rest lists s beside has) in
          let off : other ≢ s = λ same. absurd (let clash : true ≡ false =
          sym (c.names_beside.ensures ∙ so-beside c.object_of-in-slots.result c.in-Some.offset c.descends-is_below.result
          (c.descends-is_below.ensures.test ∙ ap (is_descendant slots c.args.root) same ∙ beside) (names ∙ ap (object_at slots) same ∙ has))
          ∙ c.if-names_beside.false in cc) in
          subst (λ l. 0 < times_in l s) (sym step) (later other found.0 s off was);
    }
