-- A label of a thread says that the thread ran, and a thread that runs is within its budget before its instruction.
use Rattle.std.proofs.Common.{ℕ, ◌≡◌, ◌∙◌, ◌+◌, ◌<◌, ◌≤◌, ℤ, pos, ◌+ℤ◌, ◌≤ℤ◌, true, false, Option, Some, None, List, sym, ap, arith}
use Rattle.std.specs.Prelude.{Contains, int_lt}
use Rattle.std.specs.Option.{option_map_or}
use Rattle.std.proofs.lemmas.Bool.{eqb-true, false≢true}
use Rattle.std.proofs.lemmas.Int.{ints}
use Rattle.headline.specs.measure_facts.Terms.{NamesRegisters}
use Rattle.headline.specs.facts.Standing.{AllStand}
use Rattle.model.specs.declared.events.Event.{Event}
use Rattle.model.specs.declared.events.Event.TheVariants.{Irq, Read, Step, Tick, Write}
use Rattle.model.specs.declared.labels.Label.{Label}
use Rattle.model.specs.declared.labels.Label.TheVariants.{Idle}
use Rattle.model.specs.declared.ranges.Range.{Range}
use Rattle.model.specs.Acceptance.Measures.{Measure, least_value, measured}
use Rattle.model.specs.Acceptance.NotedStates.{PointState}
use Rattle.model.specs.Acceptance.PointStates.{Known, noted}
use Rattle.model.specs.Acceptance.ThreadInvariants.{IsWaiting, LieWithin, ThreadInvariant, runs, tcb_of, waits}
use Rattle.model.specs.Images.Described.{Numbered, numbered_threads}
use Rattle.model.specs.Images.Image.{Image}
use Rattle.model.specs.Kernel.Scheduling.{current, is_runnable}
use Rattle.model.specs.Kernel.State.{Object, State, Status, Inactive, Runnable, Blocked, AwaitsReply, AwaitsHandler, as_thread, new_thread, thread_at}
use Rattle.model.specs.Kernel.Steps.{memory_base, ran, step}
use Rattle.model.specs.Kernel.Waits.{is_of, open_count}
use Rattle.model.specs.Machine.ProgramMemory.{RegisterFile}
use Rattle.soundness.proofs.Laws.{current-runs}
use Rattle.headline.specs.steps.Points.{IsPoint}

-- ---- who ran

same-base : (x thread : ℕ) → memory_base + x ≡ memory_base + thread → x ≡ thread
same-base x thread is = omega (arith, is)

pub label-runs : (s : State) (event : Event) (thread : ℕ) → is_of thread (step s event).1 ≡ true → current s ≡ Some thread
unfolding step
label-runs s Step thread is = elim (current s) as (λ o. is_of thread (option_map_or (ran s) o (s, Idle)).1 ≡ true → o ≡ Some thread) [
  | None ↦ λ none. absurd (false≢true none)
  | Some x ↦ λ some. ap Some (same-base x thread (eqb-true (memory_base + x) (memory_base + thread) some))
] is
label-runs s Tick thread is = absurd (false≢true is)
label-runs s (Irq number) thread is = absurd (false≢true is)
label-runs s (Write address word) thread is = absurd (false≢true is)
label-runs s (Read address) thread is = absurd (false≢true is)

-- ---- who runs does not wait

none-waits : (status : Status) → IsWaiting status → is_runnable status ≡ true → ⊥
none-waits Inactive so now = so
none-waits Runnable so now = so
none-waits (Blocked queue) so now = false≢true now
none-waits AwaitsReply so now = false≢true now
none-waits AwaitsHandler so now = so

-- ---- a measure of 1 at least

least-one : (n budget : ℕ) (least value : ℤ) → int_lt least (pos 1) ≡ false → least ≤ℤ value → (pos n +ℤ value) ≤ℤ pos budget → n + 1 ≤ budget
least-one n budget least value is less within = grind (arith, ints, is, less, within)

module _ (image : Image) (t : Numbered) (listed : Contains (numbered_threads image) t)
    (points : (point : ℕ) (state : PointState) → point < t.thread.header.words → noted image t point ≡ Known state → IsPoint image t point state)
    (names : (point : ℕ) (state : PointState) → noted image t point ≡ Known state → NamesRegisters state.measure)
    (least : (r : RegisterFile) (m : Measure) (ranges : List Range) → NamesRegisters m → LieWithin r ranges → least_value m ranges ≤ℤ measured m r) where
  pub runs-within : (s : State) (labels : List Label) → AllStand image s labels → current s ≡ Some (tcb_of image t)
      → open_count (tcb_of image t) labels + 1 ≤ t.thread.header.budget
  runs-within s labels all now = by-invariant (all.stand t listed)
    where
      by-invariant : ThreadInvariant image t s labels → open_count (tcb_of image t) labels + 1 ≤ t.thread.header.budget
      by-invariant (runs own point state there status stands budget) =
          least-one (open_count (tcb_of image t) labels) t.thread.header.budget (least_value state.measure state.ranges) (measured state.measure own.registers)
          (IsPoint.least (points point state stands.inside stands.known))
          (least own.registers state.measure state.ranges (names point state stands.known) stands.registers) budget
      by-invariant (waits own point state there status stands asks none) =
          let running = current-runs s all.sound.threads (tcb_of image t) now in
          let own_status : (thread_at s (tcb_of image t)).status ≡ own.status =
          ap (λ (o : Option Object). (option_map_or (λ u. u) (as_thread o) new_thread).status) there in
          absurd (none-waits own.status status (sym (ap is_runnable own_status) ∙ running.runs))
