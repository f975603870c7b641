-- What is known of registers after an invocation, and that what a thread's slots hold derives from something.
use Rattle.std.specs.Prelude.{ℕ, ◌≡◌, false, if◌then◌else◌, Some, [], ◌∷◌}
use Rattle.model.specs.Acceptance.Authority.{IsOwnSlot}
use Rattle.model.specs.Acceptance.CallRules.{AfterCall, answers, with_answer}
use Rattle.model.specs.Acceptance.NotedStates.{PointState}
use Rattle.model.specs.Capabilities.Slots.{IsFull, parent_at}
use Rattle.model.specs.Images.Described.{Numbered}
use Rattle.model.specs.Images.Image.{Image}
use Rattle.model.specs.Kernel.Messages.{a0, a1}
use Rattle.model.specs.Kernel.State.{State}
use Rattle.model.specs.declared.system_calls.SendCall.{SendCall}

-- Call has an answer, and nothing else is written; an invocation is no wait
pub record IsAnswered (kind : SendCall) (state : PointState) (left : AfterCall) : Type 0 where
  pub is_wait : left.is_wait ≡ false
  pub ranges : left.ranges ≡ (if answers kind then with_answer state.ranges else state.ranges)
  pub written : left.written ≡ (if answers kind then a0 ∷ a1 ∷ [] else [])

-- no full slot of the thread's is at the top of a line of parents
abbrev pub DerivesFromSome : Image → Numbered → State → Type 0
DerivesFromSome image t s =
    (slot : ℕ) → IsOwnSlot image t.thread slot → IsFull s.slots slot → (parent : ℕ) × (parent_at s.slots slot ≡ Some parent)
