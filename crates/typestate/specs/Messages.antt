-- The call of a message, step by step.
use Rattle.std.specs.Prelude.{ℕ, Bool, Result, Ok, Err, List, take}
use Rattle.model.specs.declared.errors.KError.{KError}
use Rattle.model.specs.declared.invocations.Invocation.{Invocation}
use Rattle.model.specs.declared.refusals.Point.{Point}
use Rattle.model.specs.declared.refusals.Refusal.{Refusal}
use Rattle.model.specs.Acceptance.CallRules.{AfterCall, invoked}
use Rattle.model.specs.Acceptance.NotedStates.{PointState}
use Rattle.model.specs.Images.Image.{Image, Thread}
use Rattle.model.specs.Kernel.Arguments.{Call}
use Rattle.model.specs.Kernel.CallForms.{CallForm}

-- how many words a form lists
abbrev pub count_of : Result CallForm KError → Result ℕ KError
count_of (Ok form) = Ok form.count
count_of (Err error) = Err error

-- the first so many words
abbrev pub are_words : ℕ → Result (List ℕ) Refusal → Result (List ℕ) Refusal
are_words count (Ok words) = Ok (take count words)
are_words count (Err refusal) = Err refusal

-- what the call leaves, if it is one
abbrev pub called_with : Image → Thread → Point → PointState → Call → Bool → Result Invocation Refusal → Result AfterCall Refusal
called_with image t at state call answers (Ok c) = invoked image t at state call c answers
called_with image t at state call answers (Err refusal) = Err refusal
