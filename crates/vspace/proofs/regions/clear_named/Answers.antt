-- Each turn passes one capability that names the frame, and keeps which do.
use Rattle.std.proofs.Common.{◌≡◌, ◌∙◌, ◌<◌, ℕ, Bool, List, Some, inr, length, refl, sym, subst}
use Rattle.model.proofs.Orders.{behind}
use Rattle.model.specs.Capabilities.Orders.{next_in}
use Rattle.model.specs.Capabilities.Slots.{Slots, capability_at}
use Rattle.model.specs.declared.capabilities.Cap.{Cap}
use Rattle.slots.specs.Listed.{naming}
use Rattle.vspace.specs.Regions.{goes_along}
use Rattle.vspace.proofs.BytesBeside.{beside-same, beside-then, fewer-less}
use Rattle.vspace.proofs.LostMappings.{less-names}
use Rattle.vspace.proofs.NamedSlots.{NamedSoFar, named-fewer, named-first, named-full, named-last, named-next}
use Rattle.vspace.proofs.Sweeps.{partly-cleared, partly-less, partly-outside, partly-then, slot-cleared}
use Rattle.vspace.proofs.regions.clear_named.Goals as goal

pub slots-init : goal.slots-init
slots-init g c = record {
  named = named-first (goes_along c.args.extent c.args.region) (g.S.SlotStore.order c.args.store.now) (g.S.SlotMap.slots c.args.store.now) c.args.frame;
  partly = λ y. inr refl;
  bytes = beside-same (g.S.SlotMap.slots c.args.store.now) (g.S.SlotStore.memory c.args.store.now);
  order = refl;
  agree = c.requires.agree;
}

pub next_naming-requires : goal.next_naming-requires
next_naming-requires g c = record {
  page = c.requires.page;
  full = λ slot is. named-full c.args.frame (capability_at (g.S.SlotMap.slots c.slots.store) slot) (c.slots.invariant.named.known slot is);
  known = c.slots.invariant.named.known;
}

pub slots-smaller : goal.slots-smaller
slots-smaller g c =
    let now : Slots = g.S.SlotMap.slots c.slots.store in
    let next : Slots = g.S.SlotMap.slots c.clear_frame.new.store in
    let order : List ℕ = g.S.SlotStore.order c.slots.store in
    let is : Some c.in-Some.slot ≡ next_in (naming order now c.args.frame) c.slots.at =
    ◌∙◌ {c = next_in (naming order now c.args.frame) c.slots.at} (sym c.in-Some.is) c.next_naming.ensures.next in
    let partly = partly-cleared c.args.extent c.args.region now next c.in-Some.slot c.clear_frame.ensures.slots in
    subst (λ (l : List ℕ). length (behind (naming l next c.args.frame) (Some c.in-Some.slot)) < length (behind (naming order now c.args.frame) c.slots.at))
    (sym c.clear_frame.ensures.order)
    (named-fewer order now c.args.frame c.next_naming.ensures.lists (goes_along c.args.extent c.args.region) c.slots.at c.slots.invariant.named
    c.in-Some.slot is next
    (less-names now next (partly-less c.args.extent c.args.region now next partly) c.args.frame))

pub slots-preserved : goal.slots-preserved
slots-preserved g c =
    let old : Slots = g.S.SlotMap.slots c.args.store.now in
    let now : Slots = g.S.SlotMap.slots c.slots.store in
    let next : Slots = g.S.SlotMap.slots c.clear_frame.new.store in
    let order : List ℕ = g.S.SlotStore.order c.slots.store in
    let is : Some c.in-Some.slot ≡ next_in (naming order now c.args.frame) c.slots.at =
    ◌∙◌ {c = next_in (naming order now c.args.frame) c.slots.at} (sym c.in-Some.is) c.next_naming.ensures.next in
    let goes : Cap → Bool = goes_along c.args.extent c.args.region in
    let partly = partly-cleared c.args.extent c.args.region now next c.in-Some.slot c.clear_frame.ensures.slots in
    record {
      named = subst (λ (l : List ℕ). NamedSoFar goes l next c.args.frame (Some c.in-Some.slot)) (sym c.clear_frame.ensures.order)
          (named-next order now c.args.frame c.next_naming.ensures.lists goes c.slots.at c.slots.invariant.named c.in-Some.slot is next
          (less-names now next (partly-less c.args.extent c.args.region now next partly) c.args.frame) c.in-Some.ensures.found_known
          (partly-outside c.args.extent c.args.region now next partly)
          (slot-cleared c.args.extent c.args.region now next c.in-Some.slot c.clear_frame.ensures.slots));
      partly = partly-then c.args.extent c.args.region old now next c.slots.invariant.partly partly;
      bytes = beside-then old now (g.S.SlotStore.memory c.args.store.now) (g.S.SlotStore.memory c.slots.store) (g.S.SlotStore.memory c.clear_frame.new.store)
          (fewer-less old now (partly-less c.args.extent c.args.region old now c.slots.invariant.partly)) c.slots.invariant.bytes c.clear_frame.ensures.bytes;
      order = c.clear_frame.ensures.order ∙ c.slots.invariant.order;
      agree = c.clear_frame.ensures.agree;
    }

pub returns-in_default-clause-named : goal.returns-in_default-clause-named
returns-in_default-clause-named g c =
    named-last (g.S.SlotStore.order c.slots.store) (g.S.SlotMap.slots c.slots.store) c.args.frame c.next_naming.ensures.lists
    (goes_along c.args.extent c.args.region) c.slots.at c.slots.invariant.named
    (sym c.in_default.is ∙ c.next_naming.ensures.next)
