-- The capabilities of a call are capabilities, and the CNodes among them have open slots.
use Rattle.std.proofs.Common.{ℕ, ◌≡◌, true, None, ◌<◌, List, refl, subst}
use Rattle.kernel_invariant.specs.Wholeness.{IsWhole}
use Rattle.cnode_ops.proofs.Laws.{root-open, root-valid, sound-nodes}
use Rattle.cnode_ops.specs.Nodes.{CNodesAreOpen, HasOpenSlots}
use Rattle.cnode_ops.specs.object_lifetimes.Kernels.{IsConsistent}
use Rattle.kernel_machine.proofs.perform_calls.Lent.{IsLent, asked}
use Rattle.model.proofs.ConditionTests.{tested-met}
use Rattle.model.specs.Capabilities.CapabilityFields.{is_capability}
use Rattle.model.specs.Capabilities.CapabilityWords.{IsCapability}
use Rattle.model.specs.Capabilities.CapabilityKinds.{cnode_of}
use Rattle.model.specs.Capabilities.Slots.{Slots, capability_at}
use Rattle.model.specs.Kernel.Arguments.{Call}
use Rattle.model.specs.Kernel.Soundness.{IsSound}
use Rattle.model.specs.Kernel.State.{State}
use Rattle.model.specs.declared.capabilities.Cap.{Cap}
use Rattle.model.specs.declared.capabilities.Cap.TheVariants.{InterruptHandler, Tcb}
use Rattle.objects.specs.Lives.{Parts, state_in}
use Rattle.objects.specs.Tables.{Tables, state_of}
use Rattle.soundness.proofs.Laws.{IsAt, invoked-at, invoked-root}
use Rattle.soundness.specs.Calls.{IsCall}
use Rattle.vspace.specs.Tables.{Holds}

-- what the functions below ask of a call
pub record MayCall (slots : Slots) (call : Call) : Type 0 where
  pub root : IsCapability call.root
  pub invoked : IsCapability call.capability
  pub there : HasOpenSlots slots call.root
  pub node : HasOpenSlots slots call.capability
  pub nodes : CNodesAreOpen slots

pub may-call : {S : Type 0} {slots : S → Slots} {memory : S → List ℕ} {o : Tables} {store : S} {call : Call} → IsLent slots memory o store call
    → MayCall (slots store) call
unfolding state_of
may-call {slots = slots} {memory} {o} {store} {call} lent =
    let s : State = state_of o (slots store) (memory store) in
    let invoked = invoked-root s call lent.is_call.invoked in
    record {
      root = root-valid s call.root lent.whole.sound lent.is_call.root;
      invoked = root-valid s call.capability lent.whole.sound invoked;
      there = root-open s call.root lent.whole.sound lent.is_call.root;
      node = root-open s call.capability lent.whole.sound invoked;
      nodes = sound-nodes s lent.whole.sound;
    }

-- the capabilities of a call pass the test of one
pub call-valid : {S : Type 0} (slots : S → Slots) (memory : S → List ℕ) (call : Call) {parts kernel : Parts S} → parts ≡ kernel
    → IsConsistent (state_in slots memory parts) (memory parts.store) → IsCall (state_in slots memory kernel) call
    → record { root_valid : is_capability call.root ≡ true; node_valid : is_capability call.capability ≡ true }
unfolding is_capability
call-valid slots memory call {parts} is kept is_call =
    let s : State = state_in slots memory parts in
    let here = asked slots memory call is is_call in
    record {
      root_valid = tested-met _ (root-valid s call.root kept.sound here.root);
      node_valid = tested-met _ (root-valid s call.capability kept.sound (invoked-root s call here.invoked));
    }

-- what is no CNode is in the slot of the call
pub held-at : (o : Tables) (slots : Slots) (memory : List ℕ) (call : Call) (c : Cap) → IsCall (state_of o slots memory) call → call.capability ≡ c →
    cnode_of c ≡ None
    → capability_at slots call.slot ≡ c
unfolding state_of
held-at o slots memory call c is_call is none = IsAt.at (invoked-at (state_of o slots memory) call c is_call.invoked is none)

-- so does the capability of a thread that is called
pub thread-held : (s : State) (call : Call) (thread : ℕ) → IsCall s call → call.capability ≡ Tcb thread → Holds s.slots (Tcb thread)
thread-held s call thread is_call is = (call.slot, IsAt.at (invoked-at s call (Tcb thread) is_call.invoked is refl))

-- a handler's line is one of 64
pub line-small : (s : State) (call : Call) (line : ℕ) → IsSound s → IsCall s call → call.capability ≡ InterruptHandler line → line < 64
line-small s call line sound is_call is =
    let at = invoked-at s call (InterruptHandler line) is_call.invoked is refl in
    let valid : IsCapability (InterruptHandler line) = subst IsCapability at.at (sound.slots.derivation.valid call.slot) in valid
