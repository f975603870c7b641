-- What is known of a system call that the rules allow, whatever the registers hold within their ranges.
use Rattle.std.specs.Prelude.{ℕ, ◌≡◌, Some, Result, Ok}
use Rattle.model.specs.declared.capabilities.Cap.{Cap}
use Rattle.model.specs.declared.refusals.Point.{Point}
use Rattle.model.specs.declared.refusals.Refusal.{Refusal}
use Rattle.model.specs.Acceptance.CallRules.{AfterCall, after_call, by_call}
use Rattle.model.specs.Acceptance.NotedKernel.{noted_kernel, noted_root}
use Rattle.model.specs.Acceptance.NotedStates.{PointState}
use Rattle.model.specs.Acceptance.PointStates.{call_at, point_of}
use Rattle.model.specs.Acceptance.Ranges.{range_of, single}
use Rattle.model.specs.Capabilities.Lookup.{called_slot}
use Rattle.model.specs.Capabilities.Slots.{capability_at}
use Rattle.model.specs.Images.Described.{Numbered}
use Rattle.model.specs.Images.Image.{Image, Thread}
use Rattle.model.specs.Kernel.Messages.{a0, a7}
use Rattle.model.specs.Kernel.Steps.{call_of}
use Rattle.model.specs.declared.system_calls.SystemCall.{SystemCall}
use Rattle.model.specs.Machine.ProgramMemory.{RegisterFile, read}

-- The rules allow the system call at a point.
pub record IsAllowed (image : Image) (t : Numbered) (point : ℕ) (state : PointState) : Type 0 where
  pub left : AfterCall
  pub at : call_at image t point state ≡ Some (Ok left)
  pub is : after_call image t.thread (point_of t point) state ≡ Ok left

-- The register with the number of the call names one, and what is known after the call is by its rule.
pub record CallsSo (image : Image) (t : Thread) (at : Point) (state : PointState) (left : AfterCall) (registers : RegisterFile) : Type 0 where
  pub call : SystemCall
  pub number : call_of (read registers a7) ≡ Some call
  pub rule : by_call image t at state call ≡ Ok left

-- The register with the address of a capability, whose value is known, leads to a slot, and what is known after the call is by the rule on
-- what that holds.
pub record NamesSo (image : Image) (t : Thread) (state : PointState) (rules : ℕ → Cap → Result AfterCall Refusal) (left : AfterCall)
    (registers : RegisterFile) : Type 0 where
  pub known : range_of state.ranges a0 ≡ single (read registers a0)
  pub slot : ℕ
  pub found : called_slot (noted_kernel image t state.slots).slots (noted_root image t) (read registers a0) ≡ Ok slot
  pub rule : rules slot (capability_at (noted_kernel image t state.slots).slots slot) ≡ Ok left
