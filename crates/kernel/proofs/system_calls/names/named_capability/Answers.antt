-- What a slot of a sound state holds is there, and a lookup has at most 32 bits left.
use Rattle.kernel.specs.Named.{IsHeld}
use Rattle.model.specs.Capabilities.LookupNumbers.{bits_left_of}
use Rattle.model.specs.Capabilities.CapabilityWords.{IsCapability}
use Rattle.model.specs.Capabilities.Slots.{IsFull, capability_at}
use Rattle.model.specs.Kernel.Kinds.{Names}
use Rattle.model.specs.Kernel.Soundness.{IsSound}
use Rattle.model.specs.Kernel.State.{State}
use Rattle.model.specs.Kernel.Steps.{named_slot}
use Rattle.model.specs.declared.capabilities.Cap.{Cap}
use Rattle.model.specs.declared.lookup_failures.LookupFailure.{LookupFailure}
use Rattle.objects.specs.Lives.{state_in}
use Rattle.objects.specs.Tables.{state_of}
use Rattle.soundness.proofs.Laws.{named-left}
use Rattle.std.proofs.Common.{ℕ, ◌≡◌, ◌∙◌, ◌≤◌, Result, Ok, Err, rules, subst, sym}
use Rattle.std.specs.Prelude.{IfErr, IfOk}
use Rattle.std.specs.Result.{result_map_both}
use Rattle.cnode_ops.proofs.Laws.{whole-of}
use Rattle.kernel.proofs.system_calls.names.named_capability.Goals as goal

held : (s : State) (found : Result (ℕ × Cap) LookupFailure) → IsSound s → IfOk found (λ named. capability_at s.slots named.0 ≡ named.1)
    → IfOk found (λ named. IsFull s.slots named.0) → IfOk found (λ named. IsHeld s named.0 named.1)
held s (Ok named) sound holds full = record {
  held = holds;
  full = full;
  there = record {
    valid = subst IsCapability holds (sound.slots.derivation.valid named.0);
    named = λ kind offset names. sound.memory.named named.0 kind offset (subst (Names kind offset) (sym holds) names);
  };
}
held s (Err failure) sound holds full = tt

few : (s : State) (thread : ℕ) (found : Result (ℕ × Cap) LookupFailure) → result_map_both (λ named. named.0) (λ failure. failure) found ≡ named_slot s thread
    → IfErr found (λ failure. bits_left_of failure ≤ 32)
few s thread (Ok named) is = tt
few s thread (Err failure) is = named-left s thread failure (sym is)

pub returns-clause-held : goal.returns-clause-held
unfolding state_of
returns-clause-held g c =
    let whole = whole-of g.S.SlotMap.slots g.S.SlotStore.memory c.live.inside.objects c.live.inside.store c.kernel.invariant c.live.view_is c.live.invariant in
    let of_kernel = c.live.view_is ∙ c.kernel.view_is in
    let found = c.called_capability.result in
    subst (λ k. IfOk found (λ named. IsHeld (state_in g.S.SlotMap.slots g.S.SlotStore.memory k) named.0 named.1)) of_kernel
    (held _ found whole.sound c.called_capability.ensures.held c.called_capability.ensures.full)

pub returns-clause-few : goal.returns-clause-few
unfolding state_of
returns-clause-few g c = few (state_in g.S.SlotMap.slots g.S.SlotStore.memory c.args.kernel.now) c.args.thread c.called_capability.result (search rules)
