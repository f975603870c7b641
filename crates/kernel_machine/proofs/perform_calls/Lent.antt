-- A kernel and its parts: what is asked of the one is known of the other, and what the other gives is given.
use Rattle.std.proofs.Common.{◌≡◌, ◌∙◌, ℕ, List, Result, sym, subst}
use Rattle.cnode_ops.proofs.Laws.{whole-of}
use Rattle.cnode_ops.specs.object_lifetimes.Kernels.{IsConsistent}
use Rattle.kernel_machine.proofs.perform_calls.Standing.{Whole}
use Rattle.model.specs.Kernel.Outcomes.{GivesState}
use Rattle.objects.specs.Lives.{Parts, state_in}
use Rattle.objects.specs.Standing.{Standing}
use Rattle.objects.specs.Tables.{Tables, state_of}
use Rattle.model.specs.Capabilities.Slots.{Slots}
use Rattle.model.specs.Kernel.Arguments.{Call}
use Rattle.model.specs.Kernel.State.{State}
use Rattle.model.specs.declared.errors.KError.{KError}
use Rattle.soundness.specs.Calls.{IsCall}

pub asked : {S : Type 0} (slots : S → Slots) (memory : S → List ℕ) (call : Call) {parts kernel : Parts S} → parts ≡ kernel →
    IsCall (state_in slots memory kernel) call
    → IsCall (state_in slots memory parts) call
asked slots memory call is whole = subst (λ k. IsCall (state_in slots memory k) call) (sym is) whole

-- parts of a kernel that are lent to a call: they are whole, and it is a call on them
pub record IsLent {S : Type 0} (slots : S → Slots) (memory : S → List ℕ) (o : Tables) (store : S) (call : Call) : Type 0 where
  pub whole : Whole slots memory o store
  pub is_call : IsCall (state_of o (slots store) (memory store)) call

pub lent : {S : Type 0} (slots : S → Slots) (memory : S → List ℕ) (call : Call) {o : Tables} {store : S} {parts kernel : Parts S}
    → IsConsistent (state_in slots memory parts) (memory parts.store) → record { store = store; tables = o } ≡ parts
    → Standing o (slots store) (memory store) → parts ≡ kernel → IsCall (state_in slots memory kernel) call → IsLent slots memory o store call
lent slots memory call {o} {store} kept is stands of is_call = record {
  whole = whole-of slots memory o store kept is stands;
  is_call = asked slots memory call (is ∙ of) is_call;
}

-- what is given of the parts for a call in its own words is given of the kernel for what was asked
pub given : {A S X : Type 0} (slots : S → Slots) (memory : S → List ℕ) (defined : State → X → Result State KError) (result : Result A KError)
    (left : State) {o : Tables} {store : S} {parts kernel : Parts S} {was made : X}
    → record { store = store; tables = o } ≡ parts → parts ≡ kernel → was ≡ made
    → GivesState (defined (state_of o (slots store) (memory store)) made) result left → GivesState (defined (state_in slots memory kernel) was) result left
given slots memory defined result left {o} {store} {was = was} is of same gives =
    subst (λ k. GivesState (defined (state_in slots memory k) was) result left) (is ∙ of)
    (subst (λ a. GivesState (defined (state_of o (slots store) (memory store)) a) result left) (sym same) gives)
