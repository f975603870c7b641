-- Where a system call that keeps the rules leads.
use Rattle.std.specs.Prelude.{ℕ, ◌≡◌, ◌+◌, ◌<◌, ◌≤ℤ◌, ◌<ℤ◌, pos, true, false}
use Rattle.headline.specs.measure_facts.Terms.{WritesOnly}
use Rattle.model.specs.Acceptance.CallRules.{AfterCall}
use Rattle.model.specs.Acceptance.Measures.{measured}
use Rattle.model.specs.Acceptance.NotedStates.{PointState}
use Rattle.model.specs.Acceptance.PointStates.{Known, noted}
use Rattle.model.specs.Acceptance.ThreadInvariants.{LieWithin}
use Rattle.model.specs.Images.Described.{Numbered}
use Rattle.model.specs.Images.Image.{Image}
use Rattle.model.specs.Machine.ProgramMemory.{RegisterFile}
use Rattle.headline.specs.steps.Formed.{AreFormed}

-- The call leads to the next point, which has a state: the ranges and slots after the call are kept there. The measure falls, or after a
-- wait it is within the budget, whatever the call writes.
pub record LeadsBehind (image : Image) (t : Numbered) (point : ℕ) (state : PointState) (left : AfterCall) : Type 0 where
  pub next : PointState
  pub inside : point + 1 < t.thread.header.words
  pub known : noted image t (point + 1) ≡ Known next
  pub ranges : (r : RegisterFile) → LieWithin r left.ranges → LieWithin r next.ranges
  pub slots : AreFormed left.slots → next.slots ≡ left.slots
  -- after a call that leaves the slots as they were
  pub kept : left.slots ≡ state.slots → next.slots ≡ state.slots
  pub within : left.is_wait ≡ true → (r after : RegisterFile) → WritesOnly r after left.written → LieWithin r state.ranges
      → LieWithin after left.ranges → measured next.measure after ≤ℤ pos t.thread.header.budget
  pub falls : left.is_wait ≡ false → (r after : RegisterFile) → WritesOnly r after left.written → LieWithin r state.ranges
      → LieWithin after left.ranges → measured next.measure after <ℤ measured state.measure r
