-- Who shares the object is after the slot that was looked at last, or nobody does.
use Rattle.std.proofs.Common.{ℕ, ◌≡◌, ◌≢◌, ◌∙◌, ◌==◌, ◌+◌, ◌<◌, ◌&&◌, not, true, false, if◌then◌else◌, Option, Some, List, [], ◌∷◌, length, refl, sym, ap}
use Rattle.std.proofs.Common.{subst, arith}
use Rattle.std.proofs.lemmas.Bool.{eq-eqb, ne_eqb}
use Rattle.std.specs.Option.{option_map_or}
use Rattle.model.specs.Capabilities.CapabilityKinds.{object_of}
use Rattle.model.specs.Capabilities.Slots.{IsFull, Slots}
use Rattle.model.specs.Shared.Lists.{times_in}
use Rattle.model.proofs.Ancestors.{listed-full, order-once}
use Rattle.model.proofs.Orders.{after-behind, behind, behind-step, first-none, first-some, times-behind}
use Rattle.slots.specs.Kin.{object_at}
use Rattle.slots.proofs.stores.SlotStore.is_shared.Goals as goal

-- the test of a slot that names the object
too : (o : Option ℕ) (offset other slot : ℕ) → other ≢ slot → o ≡ Some offset → (not (other == slot) && option_map_or (λ named. named == offset) o false) ≡ true
too o offset other slot apart is =
    ap (λ b. not b && option_map_or (λ named. named == offset) o false) (ne_eqb other slot apart)
    ∙ ap (λ o. option_map_or (λ named. named == offset) o false) is ∙ eq-eqb offset offset refl

later : (x : ℕ) (rest : List ℕ) (s : ℕ) → x ≢ s → 0 < times_in (x ∷ rest) s → 0 < times_in rest s
later x rest s apart there = omega (arith, there, ap (λ b. if b then times_in rest s + 1 else times_in rest s) (ne_eqb x s apart))

pub returns-in_default-next_full-clause-alone : goal.returns-in_default-next_full-clause-alone
returns-in_default-next_full-clause-alone g c = λ _ shared.
    let slots : Slots = g.Self.SlotMap.slots c.args.self.now in
    let order = g.Self.SlotStore.order c.args.self.now in
    let none : behind order c.slots.at ≡ [] = first-none _ (sym (after-behind order c.slots.at) ∙ sym c.next_full.ensures.next ∙ c.in_default-next_full.is) in
    let own : object_at slots c.args.slot ≡ Some c.in-Some.offset = ap object_of (sym c.capability.ensures.value) ∙ sym c.object_of.ensures ∙ c.in-Some.is in
    let there : 0 < times_in (behind order c.slots.at) shared.other =
    c.slots.invariant.rest c.next_full.ensures.lists shared.other shared.apart (shared.names ∙ sym shared.own ∙ own) in
    absurd (omega (arith, there, ap (λ l. times_in l shared.other) none))

pub slots-smaller : goal.slots-smaller
slots-smaller g c =
    let slots : Slots = g.Self.SlotMap.slots c.args.self.now in
    let order = g.Self.SlotStore.order c.args.self.now in
    let other = c.in-Some-next_full.other in
    let found = first-some _ other (sym (after-behind order c.slots.at) ∙ sym c.next_full.ensures.next ∙ c.in-Some-next_full.is) in
    let step = behind-step order c.slots.at other found.0 (order-once order slots c.next_full.ensures.lists) found.1 in
    let fewer : length (behind order (Some other)) < length (behind order c.slots.at) = omega (arith, ap length step, ap length found.1) in
    fewer

pub slots-preserved : goal.slots-preserved
slots-preserved g c =
    let slots : Slots = g.Self.SlotMap.slots c.args.self.now in
    let order = g.Self.SlotStore.order c.args.self.now in
    let other = c.in-Some-next_full.other in
    let found = first-some _ other (sym (after-behind order c.slots.at) ∙ sym c.next_full.ensures.next ∙ c.in-Some-next_full.is) in
    let full : IsFull slots other = listed-full order slots other c.next_full.ensures.lists (times-behind order c.slots.at other found.0 found.1) in
    let step = behind-step order c.slots.at other found.0 (order-once order slots c.next_full.ensures.lists) found.1 in
    let names : object_of c.capability-in-slots.result ≡ object_at slots other = ap object_of c.capability-in-slots.ensures.value in
    record {
      full = λ slot is. let same : other ≡ slot = cc in subst (IsFull slots) same full;
      rest = λ lists s apart has.
          let was : 0 < times_in (other ∷ found.0) s = subst (λ l. 0 < times_in l s) found.1 (c.slots.invariant.rest lists s apart has) in
          let off : other ≢ s = λ same. absurd (let clash : true ≡ false =
          sym (c.names_too.ensures ∙ too _ c.in-Some.offset other c.args.slot (λ at. apart (sym same ∙ at))
          (c.object_of-in-slots.ensures ∙ names ∙ ap (object_at slots) same ∙ has)) ∙ c.if-names_too.false in cc) in
          subst (λ l. 0 < times_in l s) (sym step) (later other found.0 s off was);
    }
