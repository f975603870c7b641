-- The slot where it was found, or none of the full ones.
use Rattle.std.proofs.Common.{ℕ, suc, ◌≡◌, ◌∙◌, ◌+◌, ◌/◌, ◌≤◌, inl, inr, Bool, false, Some, length, nat_lt, sym, ap, arith}
use Rattle.cnode_ops.proofs.Laws.{before-first, behind-first, behind-next, fewer-behind, found-member, last-found, none-passes, passes-full, some-none}
use Rattle.cnode_ops.proofs.Laws.{store-some}
use Rattle.kernel_machine.proofs.places.reaches_behind.Goals as goal
use Rattle.model.specs.Capabilities.Orders.{next_in}
use Rattle.model.specs.Capabilities.Slots.{IsFull, Slots, capability_at, is_full}
use Rattle.model.proofs.Ancestors.{full-open}
use Rattle.model.specs.Kernel.Setup.{memory_end}
use Rattle.model.specs.declared.capabilities.Cap.{Cap}
use Rattle.std.proofs.lemmas.Bool.{lt-ltb}
use Rattle.std.proofs.lemmas.Bool.Decides.{leb_tells}

abbrev passes : Slots → ℕ → ℕ → Bool
passes slots offset slot = nat_lt offset (memory_end (capability_at slots slot))

not-less : (a b : ℕ) → b ≤ a → nat_lt a b ≡ false
not-less a b le = elim (leb_tells (suc a) b) [ inl low ↦ absurd (omega (arith, low.1, le)) | inr high ↦ high.0 ]

pub slots-init : goal.slots-init
slots-init g c =
    let slots : Slots = g.S.SlotMap.slots c.args.store.now in
    record {
      full = λ slot is. before-first (IsFull slots) slot is;
      rest = behind-first (g.S.SlotStore.order c.args.store.now) (is_full slots) (passes slots c.args.offset);
    }

pub slots-smaller : goal.slots-smaller
slots-smaller g c =
    let slots : Slots = g.S.SlotMap.slots c.args.store.now in
    fewer-behind (g.S.SlotStore.order c.args.store.now) (is_full slots) c.next_full.ensures.lists c.slots.at c.in-Some.slot
    (sym c.in-Some.is ∙ c.next_full.ensures.next)

pub slots-preserved : goal.slots-preserved
slots-preserved g c =
    let slots : Slots = g.S.SlotMap.slots c.args.store.now in
    let order = g.S.SlotStore.order c.args.store.now in
    let next : Some c.in-Some.slot ≡ next_in order c.slots.at = sym c.in-Some.is ∙ c.next_full.ensures.next in
    record {
      full = λ slot is. last-found (IsFull slots) c.in-Some.slot slot
          (found-member order (is_full slots) c.next_full.ensures.lists c.slots.at c.in-Some.slot next) is;
      rest = behind-next order (is_full slots) c.next_full.ensures.lists (passes slots c.args.offset) c.slots.at c.in-Some.slot c.slots.invariant.rest next
          (ap (λ (x : Cap). nat_lt c.args.offset (memory_end x)) (sym c.capability.ensures.value) ∙ ap (nat_lt c.args.offset) (sym c.memory_end.ensures)
          ∙ not-less c.args.offset c.memory_end.result c.if-offset-memory_end.false);
    }

pub prove-unreachable-requires : goal.prove-unreachable-requires
prove-unreachable-requires g c =
    let slots : Slots = g.S.SlotMap.slots c.args.store.now in
    let full : IsFull slots c.in-Some.slot =
    found-member (g.S.SlotStore.order c.args.store.now) (is_full slots) c.next_full.ensures.lists c.slots.at c.in-Some.slot
    (sym c.in-Some.is ∙ c.next_full.ensures.next)
    in
    omega (arith, c.if-prove.true, c.count.ensures.near c.in-Some.slot (full-open slots c.in-Some.slot full), c.number.ensures.value)

pub returns-in_default : goal.returns-in_default
returns-in_default g c =
    let slots : Slots = g.S.SlotMap.slots c.args.store.now in
    let none = none-passes (g.S.SlotStore.order c.args.store.now) (is_full slots) c.next_full.ensures.lists (passes slots c.args.offset) c.slots.at
    c.slots.invariant.rest
    (sym c.in_default.is ∙ c.next_full.ensures.next)
    (passes-full slots (λ (held : Cap). nat_lt c.args.offset (memory_end held)) (not-less c.args.offset 0 (omega arith))) in
    sym (some-none 0 (length (g.S.SlotStore.memory c.args.store.now) / 16) (passes slots c.args.offset) (λ index _. none (0 + index)))

pub returns-then-offset-memory_end : goal.returns-then-offset-memory_end
returns-then-offset-memory_end g c =
    store-some c.count.result (length (g.S.SlotStore.memory c.args.store.now)) c.in-Some.slot (passes (g.S.SlotMap.slots c.args.store.now) c.args.offset)
    c.count.ensures.value (omega (arith, c.if-prove.false, c.number.ensures.value))
    (ap (λ (x : Cap). nat_lt c.args.offset (memory_end x)) (sym c.capability.ensures.value) ∙ ap (nat_lt c.args.offset) (sym c.memory_end.ensures)
    ∙ lt-ltb c.args.offset c.memory_end.result c.if-offset-memory_end.true)
