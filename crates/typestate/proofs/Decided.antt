-- What is known behind a call is what is known of the slots.
use Rattle.std.proofs.Common.{ℕ, ◌≡◌, ◌∙◌, Bool, true, false, not, Result, Ok, Err, refl, ap}
use Rattle.model.specs.declared.refusals.Refusal.{Refusal}
use Rattle.model.specs.declared.refusals.Refusal.TheVariants.{CallRefused, PoolLost}
use Rattle.model.specs.declared.errors.KError.TheVariants.{IllegalOperation}
use Rattle.model.specs.Acceptance.CallRules.{demand, kernel_allows, loses_pool, may_call}
use Rattle.model.specs.Acceptance.NotedKernel.{noted_after, noted_kernel}
use Rattle.model.specs.Images.Format.{◌>>=◌}
use Rattle.model.specs.Kernel.Invocations.{perform}
use Rattle.model.specs.Kernel.State.{State}
use Rattle.typestate.specs.SlotChanges.{behind_call, leaves}
use Rattle.model.specs.Acceptance.CallRules.{invoked}
use Rattle.model.specs.Acceptance.NotedStates.{PointState}
use Rattle.model.specs.Images.Image.{Image, Thread}
use Rattle.model.specs.Kernel.Arguments.{Call}
use Rattle.model.specs.declared.capabilities.Cap.{Cap}
use Rattle.model.specs.declared.invocations.CNodeCall.{CNodeCall}
use Rattle.model.specs.declared.invocations.CNodeCall.TheVariants.{Copy, Mint, Move, Mutate, Delete, Revoke}
use Rattle.model.specs.declared.invocations.Invocation.{Invocation}
use Rattle.model.specs.declared.invocations.Invocation.TheVariants.{OnCNode}
use Rattle.model.specs.declared.refusals.Point.{Point}
use Rattle.typestate.specs.Calls.{call_on}
use Rattle.typestate.specs.CNodeCalls.{cnode_after}
use Rattle.typestate.specs.SlotChanges.{slots_after}

pub decided-by : (image : Image) (t : Thread) (at : Point) (state : PointState) (call : Call) (c : Invocation) (answers : Bool) →
    invoked image t at state call c answers ≡ leaves state answers (slots_after image t at state.slots call c)
decided-by image t at state call c answers =
    let s = noted_kernel image t state.slots in
    elim (kernel_allows at (perform s call c)) as (λ (r : Result State Refusal).
    (r >>= λ after. demand (not (loses_pool s.slots call c)) (PoolLost at) >>= λ _. demand (may_call s.slots call c) (CallRefused at IllegalOperation) >>= λ _.
    Ok (behind_call state answers (noted_after image t after.slots)))
    ≡ leaves state answers (r >>= λ after. demand (not (loses_pool s.slots call c)) (PoolLost at) >>= λ _.
    demand (may_call s.slots call c) (CallRefused at IllegalOperation) >>= λ _. Ok (noted_after image t after.slots))) [
      | Err refusal ↦ refl
      | Ok after ↦ elim (loses_pool s.slots call c) as (λ b.
          (demand (not b) (PoolLost at) >>= λ _. demand (may_call s.slots call c) (CallRefused at IllegalOperation) >>= λ _.
          Ok (behind_call state answers (noted_after image t after.slots)))
          ≡ leaves state answers (demand (not b) (PoolLost at) >>= λ _. demand (may_call s.slots call c) (CallRefused at IllegalOperation) >>= λ _.
          Ok (noted_after image t after.slots))) [
            | true ↦ refl
            | false ↦ elim (may_call s.slots call c) as (λ b.
                (demand b (CallRefused at IllegalOperation) >>= λ _. Ok (behind_call state answers (noted_after image t after.slots)))
                ≡ leaves state answers (demand b (CallRefused at IllegalOperation) >>= λ _. Ok (noted_after image t after.slots))) [
                  | true ↦ refl
                  | false ↦ refl
                ]
          ]
    ]

-- the slot of a CNode's own capability does not count
pub by-slots : (image : Image) (t : Thread) (at : Point) (state : PointState) (slot : ℕ) (capability : Cap) (c : CNodeCall) (answers : Bool)
    → invoked image t at state (call_on image t slot capability) (OnCNode c) answers ≡ leaves state answers (cnode_after image t at state.slots capability c)
by-slots image t at state slot capability c answers = decided-by image t at state (call_on image t slot capability) (OnCNode c) answers
    ∙ ap (leaves state answers) (anywhere c)
  where
    anywhere : (c : CNodeCall) → slots_after image t at state.slots (call_on image t slot capability) (OnCNode c) ≡ cnode_after image t at state.slots
        capability c
    anywhere (Copy destination source word) = refl
    anywhere (Mint destination source word payload) = refl
    anywhere (Move destination source) = refl
    anywhere (Mutate destination source payload) = refl
    anywhere (Delete name) = refl
    anywhere (Revoke name) = refl
