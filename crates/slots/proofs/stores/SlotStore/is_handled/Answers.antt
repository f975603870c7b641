-- The slot where it was found, or none of all.
use Rattle.std.proofs.Common.{ℕ, ◌∙◌, ◌/◌, ◌<◌, length, sym, ap, arith}
use Rattle.model.specs.Capabilities.CapabilityKinds.{is_handler_of}
use Rattle.model.specs.Capabilities.Slots.{Slots, capability_at}
use Rattle.slots.proofs.Handled.{handled-at, handled-none, none-next}
use Rattle.slots.proofs.stores.SlotStore.is_handled.Goals as goal

pub slots-init : goal.slots-init
slots-init g c = λ slot less. absurd (omega (arith, less))

pub slots-preserved : goal.slots-preserved
slots-preserved g c =
    let slots : Slots = g.Self.SlotMap.slots c.args.self.now in
    none-next slots c.args.line c.slots.number c.slots.invariant
    (ap (λ s. is_handler_of c.args.line (capability_at slots s)) (sym c.new.ensures) ∙ ap (is_handler_of c.args.line) (sym c.capability.ensures.value)
    ∙ sym c.is_handler_of.ensures ∙ c.if-is_handler_of.false)

pub returns-then-is_handler_of : goal.returns-then-is_handler_of
returns-then-is_handler_of g c =
    let slots : Slots = g.Self.SlotMap.slots c.args.self.now in
    let size : ℕ = length (g.Self.SlotStore.memory c.args.self.now) / 16 in
    let less : c.slots.number < size = omega (arith, c.slots-test.true, c.count-count.ensures.value) in
    sym (handled-at slots size c.args.line c.slots.number less
    (ap (λ s. is_handler_of c.args.line (capability_at slots s)) (sym c.new.ensures) ∙ ap (is_handler_of c.args.line) (sym c.capability.ensures.value)
    ∙ sym c.is_handler_of.ensures ∙ c.if-is_handler_of.true))

pub returns : goal.returns
returns g c =
    let slots : Slots = g.Self.SlotMap.slots c.args.self.now in
    let size : ℕ = length (g.Self.SlotStore.memory c.args.self.now) / 16 in
    sym (handled-none slots size c.args.line (λ slot less. c.slots.invariant slot
    (omega (arith, less, c.slots-test.false, c.count-count.ensures.value, c.slots.auto.number-end))))
