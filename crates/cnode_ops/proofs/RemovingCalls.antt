-- Delete and Revoke find their slot first.
use Rattle.std.proofs.Common.{ℕ, ◌≡◌, ◌∙◌, Result, ap}
use Rattle.model.specs.Capabilities.Slots.{Slots}
use Rattle.model.specs.Kernel.Arguments.{◌>>=◌, Call, argument_slot}
use Rattle.model.specs.Kernel.CNodeCalls.{on_cnode}
use Rattle.model.specs.Kernel.Removal.{delete, revoke}
use Rattle.model.specs.Kernel.State.{State}
use Rattle.model.specs.declared.capabilities.Cap.{Cap}
use Rattle.model.specs.declared.errors.KError.{KError}
use Rattle.model.specs.declared.invocations.CNodeCall.TheVariants.{Delete, Revoke}
use Rattle.model.specs.declared.invocations.SlotName.{SlotName}

module _ (s : State) (slots : Slots) (made : Call) (node : Cap) (name : SlotName) (found : Result ℕ KError) (has : s.slots ≡ slots)
    (same : made.capability ≡ node) (is : argument_slot slots node name ≡ found) where
  found-there : argument_slot s.slots made.capability name ≡ found
  found-there = ap (λ (t : Slots). argument_slot t made.capability name) has ∙ ap (λ (n : Cap). argument_slot slots n name) same ∙ is

  pub delete-on : on_cnode s made (Delete name) ≡ (found >>= λ slot. delete s slot)
  delete-on = ap (λ (r : Result ℕ KError). r >>= λ slot. delete s slot) found-there

  pub revoke-on : on_cnode s made (Revoke name) ≡ (found >>= λ slot. revoke s slot)
  revoke-on = ap (λ (r : Result ℕ KError). r >>= λ slot. revoke s slot) found-there
