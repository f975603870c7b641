-- Waits and stretches: how long a thread runs from one wait to the next, by its labels.
use Rattle.std.specs.Prelude.{ℕ, ◌≡◌, ◌==◌, ◌+◌, ◌≤◌, Bool, true, false, not, if◌then◌else◌, IsTrue, List, [], ◌∷◌, ◌++◌, filter, fold, length}
use Rattle.std.specs.List.{list_all}
use Rattle.model.specs.declared.labels.Label.{Label}
use Rattle.model.specs.declared.labels.Label.TheVariants.{Idle, Ticked, Raised, Wrote, Showed, Ran}
use Rattle.model.specs.declared.labels.Outcome.{Outcome}
use Rattle.model.specs.declared.labels.Outcome.TheVariants.{Faulted, Refused, Completed, Put, Waited, Plain}
use Rattle.model.specs.Kernel.Steps.{memory_base}

abbrev pub is_waited : Outcome → Bool
is_waited (Faulted kind) = false
is_waited (Refused error) = false
is_waited Completed = false
is_waited (Put byte) = false
is_waited Waited = true
is_waited Plain = false

-- a wait: a receive that may block, or a send or call on an endpoint, whether it blocked or not
abbrev pub is_wait : Label → Bool
is_wait Idle = false
is_wait Ticked = false
is_wait (Raised irq_line) = false
is_wait (Wrote place word) = false
is_wait (Showed place word) = false
is_wait (Ran thread pc outcome) = is_waited outcome

abbrev pub is_fault : Label → Bool
is_fault Idle = false
is_fault Ticked = false
is_fault (Raised irq_line) = false
is_fault (Wrote place word) = false
is_fault (Showed place word) = false
is_fault (Ran thread pc (Faulted kind)) = true
is_fault (Ran thread pc _) = false

abbrev pub is_error : Label → Bool
is_error Idle = false
is_error Ticked = false
is_error (Raised irq_line) = false
is_error (Wrote place word) = false
is_error (Showed place word) = false
is_error (Ran thread pc (Refused error)) = true
is_error (Ran thread pc _) = false

-- whether a label is of the thread whose TCB is at an offset
abbrev pub is_of : ℕ → Label → Bool
is_of thread Idle = false
is_of thread Ticked = false
is_of thread (Raised irq_line) = false
is_of thread (Wrote place word) = false
is_of thread (Showed place word) = false
is_of thread (Ran address pc outcome) = address == memory_base + thread

-- a thread's labels
abbrev pub labels_of : ℕ → List Label → List Label
labels_of thread labels = filter (is_of thread) labels

abbrev pub NoneWaits : List Label → Type 0
NoneWaits labels = IsTrue (list_all (λ label. not (is_wait label)) labels)

-- A stretch of a thread: a run of its labels, one after another among its labels, of which none but the last may be a wait.
pub record IsStretch (thread : ℕ) (labels stretch : List Label) : Type 0 where
  pub before : List Label
  pub behind : List Label
  pub place : labels_of thread labels ≡ before ++ stretch ++ behind
  pub first : List Label
  pub last : Label
  pub ends : stretch ≡ first ++ last ∷ []
  pub runs : NoneWaits first

-- no stretch of the thread is longer than this
abbrev pub KeepsBudget : ℕ → ℕ → List Label → Type 0
KeepsBudget thread budget labels = (stretch : List Label) → IsStretch thread labels stretch → length stretch ≤ budget

-- how many labels a thread has had since its last wait, or since the start
abbrev pub count_open : ℕ → Label → ℕ
count_open count label = if is_wait label then 0 else count + 1

unfoldable pub open_count : ℕ → List Label → ℕ
open_count thread labels = fold count_open 0 (labels_of thread labels)
