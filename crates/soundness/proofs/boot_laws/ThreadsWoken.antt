-- What Resume of a thread leaves that nobody else knows of: it runs, after the others of its priority.
use Rattle.std.proofs.Common.{ℕ, ◌≡◌, ◌∙◌, ◌==◌, Bool, true, false, if◌then◌else◌, Option, Some, None, [], ◌∷◌, ◌++◌, option_map, refl, ap}
use Rattle.std.specs.Option.{option_map_or}
use Rattle.std.proofs.lemmas.Bool.{eq-eqb}
use Rattle.model.specs.Capabilities.Slots.{Slots}
use Rattle.model.specs.Kernel.Scheduling.{at_tail, full_slice, leaves, unready, wake, without_threads}
use Rattle.model.specs.Kernel.State.{State, Object, ThreadObject, ThreadState, Inactive, Runnable, as_thread, new_thread, put, thread_at, with_thread}
use Rattle.model.specs.Machine.ProgramMemory.{RegisterFile}
use Rattle.model.specs.Shared.Lists.{without}
use Rattle.soundness.proofs.boot_laws.ThreadsStanding.{standing}

-- a thread that is set up and does not run, and the same thread once it runs
abbrev pub rested : RegisterFile → ℕ → ℕ → ThreadState
rested registers priority fault =
    record { registers = registers; priority = priority; slice = 0; fault_address = fault; status = Inactive; caller = None }

abbrev pub running : RegisterFile → ℕ → ℕ → ThreadState
running registers priority fault =
    record { registers = registers; priority = priority; slice = full_slice; fault_address = fault; status = Runnable; caller = None }

module _ (s : State) (slots : Slots) (x : ℕ) (registers : RegisterFile) (priority fault : ℕ)
    (quiet : (offset : ℕ) → option_map (without_threads (λ other. other == x)) (s.objects offset) ≡ s.objects offset)
    (absent : (p : ℕ) → without x (s.ready p) ≡ s.ready p) where
  abbrev before : ThreadState
  before = rested registers priority fault

  abbrev after : ThreadState
  after = running registers priority fault

  abbrev left : State
  left = leaves (standing s slots x before) x

  -- the thread at its offset, by whether that is its offset
  abbrev thread_by : ThreadState → Option Object → Bool → ThreadState
  thread_by t other b = option_map_or (λ u. u) (as_thread (if b then Some (ThreadObject t) else other)) new_thread

  left-thread : thread_at left x ≡ before
  left-thread =
      ap (λ b. option_map_or (λ u. u) (as_thread (option_map (without_threads (λ other. other == x)) (if b then Some (ThreadObject before) else s.objects x)))
      new_thread) (eq-eqb x x refl)

  abbrev set_to : ThreadState → State
  set_to t = unready (with_thread left x t) x

  set-thread : thread_at (set_to after) x ≡ after
  set-thread = ap (thread_by after (left.objects x)) (eq-eqb x x refl)

  -- the ready list, from which the thread was taken twice
  twice : (p : ℕ) → without x (without x (s.ready p)) ≡ s.ready p
  twice p = ap (without x) (absent p) ∙ absent p

  object-there : (offset : ℕ) → put left.objects x (Some (ThreadObject after)) offset ≡ put s.objects x (Some (ThreadObject after)) offset
  object-there offset =
      elim (offset == x) as (λ b. (if b then Some (ThreadObject after) else
      option_map (without_threads (λ other. other == x)) (if b then Some (ThreadObject before) else s.objects offset))
      ≡ (if b then Some (ThreadObject after) else s.objects offset)) [
        | true ↦ refl
        | false ↦ quiet offset
      ]

  abbrev pub woken : State
  woken = record (standing s slots x after) { ready = put s.ready priority (s.ready priority ++ x ∷ []) }

  pub woken-is : wake (leaves (standing s slots x before) x) x ≡ woken
  woken-is =
      ap (λ t. at_tail (set_to (record t { status = Runnable; slice = full_slice })) x) left-thread
      ∙ ap (λ (t : ThreadState). record (set_to after) { ready = put (set_to after).ready t.priority ((set_to after).ready t.priority ++ x ∷ []) }) set-thread
      ∙ (λ i. record woken {
        objects = λ offset. object-there offset i;
        ready = λ p. put (λ q. twice q i) priority (twice priority i ++ x ∷ []) p;
      })
