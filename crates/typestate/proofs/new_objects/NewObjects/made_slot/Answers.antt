-- The first capability to an object at its place is one that a slot may hold.
use Rattle.std.proofs.Common.{ℕ, ◌∙◌, ◌+◌, ◌*◌, ◌^◌, sym, ap, subst}
use Rattle.model.specs.Capabilities.CapabilityWords.{IsCapability}
use Rattle.model.specs.Kernel.ObjectTypes.{new_type}
use Rattle.model.specs.Kernel.Retype.{first_capability, object_bits}
use Rattle.typestate.proofs.MadeTypes.{made-valid}
use Rattle.typestate.proofs.new_objects.NewObjects.made_slot.Goals as goal

pub invariant_of-result : goal.invariant_of-result
invariant_of-result c =
    let new = new_type c.args.self.now.kind in
    let at = c.args.self.now.offset in
    subst IsCapability
    (sym (c.first_capability.ensures ∙ ap (λ (n : ℕ). first_capability new (at + c.args.i * n)) c.args.self.now.sized))
    (made-valid (at + c.args.i * 2 ^ object_bits new) new c.args.self.now.made (c.args.self.now.places c.args.i c.requires))
