-- Each turn passes one capability that names the page, and keeps which do.
use Rattle.std.proofs.Common.{◌≡◌, ◌∙◌, ◌<◌, ℕ, List, inr, None, Some, length, refl, sym, ap, subst}
use Rattle.std.proofs.lemmas.Bool.{eq-eqb}
use Rattle.model.proofs.Orders.{behind}
use Rattle.model.specs.Capabilities.CapabilityKinds.{names_object}
use Rattle.model.specs.Capabilities.Orders.{next_in}
use Rattle.model.specs.Capabilities.Slots.{Slots, capability_at}
use Rattle.slots.specs.Listed.{naming}
use Rattle.vspace.specs.Endings.{is_ending}
use Rattle.vspace.proofs.BytesBeside.{beside-same, beside-then, fewer-less}
use Rattle.vspace.proofs.EndingSteps.{ending-less, ending-then, less-ending}
use Rattle.vspace.proofs.LostMappings.{less-names}
use Rattle.vspace.proofs.NamedSlots.{NamedSoFar, named-fewer, named-first, named-full, named-last, named-next}
use Rattle.vspace.proofs.endings.end_named.Goals as goal

pub slots-init : goal.slots-init
slots-init g c = record {
  named = named-first (is_ending c.args.offset) (g.S.SlotStore.order c.args.store.now) (g.S.SlotMap.slots c.args.store.now) c.args.table;
  ending = λ y. inr refl;
  bytes = beside-same (g.S.SlotMap.slots c.args.store.now) (g.S.SlotStore.memory c.args.store.now);
  order = refl;
  agree = c.requires.agree;
}

pub next_naming-requires : goal.next_naming-requires
next_naming-requires g c = record {
  page = c.requires.page;
  full = λ slot is. named-full c.args.table (capability_at (g.S.SlotMap.slots c.slots.store) slot) (c.slots.invariant.named.known slot is);
  known = c.slots.invariant.named.known;
}

pub slots-smaller : goal.slots-smaller
slots-smaller g c =
    let now : Slots = g.S.SlotMap.slots c.slots.store in
    let next : Slots = g.S.SlotMap.slots c.end_table.new.store in
    let order : List ℕ = g.S.SlotStore.order c.slots.store in
    let is : Some c.in-Some.slot ≡ next_in (naming order now c.args.table) c.slots.at =
    ◌∙◌ {c = next_in (naming order now c.args.table) c.slots.at} (sym c.in-Some.is) c.next_naming.ensures.next in
    let less = ending-less c.args.offset now next c.end_table.ensures.slots in
    subst (λ (l : List ℕ). length (behind (naming l next c.args.table) (Some c.in-Some.slot)) < length (behind (naming order now c.args.table) c.slots.at))
    (sym c.end_table.ensures.order)
    (named-fewer order now c.args.table c.next_naming.ensures.lists (is_ending c.args.offset) c.slots.at c.slots.invariant.named c.in-Some.slot is next
    (less-names now next less c.args.table))

pub slots-preserved : goal.slots-preserved
slots-preserved g c =
    let old : Slots = g.S.SlotMap.slots c.args.store.now in
    let now : Slots = g.S.SlotMap.slots c.slots.store in
    let next : Slots = g.S.SlotMap.slots c.end_table.new.store in
    let order : List ℕ = g.S.SlotStore.order c.slots.store in
    let is : Some c.in-Some.slot ≡ next_in (naming order now c.args.table) c.slots.at =
    ◌∙◌ {c = next_in (naming order now c.args.table) c.slots.at} (sym c.in-Some.is) c.next_naming.ensures.next in
    let less = ending-less c.args.offset now next c.end_table.ensures.slots in
    record {
      named = subst (λ (l : List ℕ). NamedSoFar (is_ending c.args.offset) l next c.args.table (Some c.in-Some.slot)) (sym c.end_table.ensures.order)
          (named-next order now c.args.table c.next_naming.ensures.lists (is_ending c.args.offset) c.slots.at c.slots.invariant.named c.in-Some.slot is next
          (less-names now next less c.args.table)
          c.in-Some.ensures.found_known (less-ending now next less c.args.offset) c.end_table.ensures.ended);
      ending = ending-then c.args.offset old now next c.slots.invariant.ending c.end_table.ensures.slots;
      bytes = beside-then old now (g.S.SlotStore.memory c.args.store.now) (g.S.SlotStore.memory c.slots.store) (g.S.SlotStore.memory c.end_table.new.store)
          (fewer-less old now (ending-less c.args.offset old now c.slots.invariant.ending)) c.slots.invariant.bytes c.end_table.ensures.bytes;
      order = c.end_table.ensures.order ∙ c.slots.invariant.order;
      agree = c.end_table.ensures.agree;
    }

pub returns-in_default-clause-ended : goal.returns-in_default-clause-ended
returns-in_default-clause-ended g c = λ slot m held.
    let is : None ≡ next_in (naming (g.S.SlotStore.order c.slots.store) (g.S.SlotMap.slots c.slots.store) c.args.table) c.slots.at =
    ◌∙◌ {c = next_in (naming (g.S.SlotStore.order c.slots.store) (g.S.SlotMap.slots c.slots.store) c.args.table) c.slots.at} (sym c.in_default.is)
    c.next_naming.ensures.next in
    let names = ap (names_object c.args.table) held ∙ eq-eqb c.args.table c.args.table refl in
    sym (ap (is_ending c.args.offset) held)
    ∙ named-last (g.S.SlotStore.order c.slots.store) (g.S.SlotMap.slots c.slots.store) c.args.table c.next_naming.ensures.lists (is_ending c.args.offset)
    c.slots.at c.slots.invariant.named
    is slot names
