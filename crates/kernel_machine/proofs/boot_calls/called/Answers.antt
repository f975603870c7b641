-- It is a call of the loader, on what a full slot holds.
use Rattle.kernel_machine.proofs.boot_calls.called.Goals as goal
use Rattle.model.specs.Capabilities.Slots.{IsFull, capability_at}
use Rattle.objects.specs.Tables.{state_of}
use Rattle.soundness.specs.Calls.{held, of_loader}
use Rattle.std.proofs.Common.{◌∙◌, ◌≡◌, subst}

pub returns-in-Ok-clause-sound : goal.returns-in-Ok-clause-sound
unfolding state_of
returns-in-Ok-clause-sound g c =
    let of_kernel = c.live.view_is ∙ c.kernel.view_is in
    record {
      root = of_loader c.boot_root-root.ensures.value;
      invoked = held (subst (λ k. capability_at (g.S.SlotMap.slots k.store) c.in-Ok.called.0 ≡ c.in-Ok.called.1) of_kernel c.in-Ok.ensures.held)
          (subst (λ k. IsFull (g.S.SlotMap.slots k.store) c.in-Ok.called.0) of_kernel c.in-Ok.ensures.full);
    }
