-- Before which events a run stops.
use Rattle.std.specs.Prelude.{ℕ, ◌≡◌, ◌+◌, ◌%◌, ◌^◌, ◌<◌, ◌≤◌, ◌==◌, ◌&&◌, ◌||◌, Bool, true, false, not, List, [], ◌∷◌, Option, Some, None, Ok}
use Rattle.std.specs.List.{list_any}
use Rattle.std.specs.Option.{option_map_or}
use Rattle.debugging.specs.Runs.{IsShown, Moment, next_of, shown}
use Rattle.debugging.specs.declared.stops.Breakpoint.{Breakpoint}
use Rattle.debugging.specs.declared.stops.Stops.{Stops}
use Rattle.debugging.specs.declared.stops.Watch.{Watch}
use Rattle.kernel_machine.specs.Setups.{state_in}
use Rattle.model.specs.Kernel.Scheduling.{current}
use Rattle.model.specs.Kernel.State.{State}
use Rattle.model.specs.Kernel.Steps.{registers_of}
use Rattle.model.specs.declared.events.Event.{Event}
use Rattle.model.specs.declared.events.Event.TheVariants.{Step, Tick, Irq, Write, Read}

-- ---- breakpoints: an address in one part, or in all

abbrev pub is_part : ℕ → Option ℕ → Bool
is_part thread None = true
is_part thread (Some part) = part == thread

-- whether a thread is at a breakpoint of its own or of all
abbrev pub is_met_by : ℕ → ℕ → Breakpoint → Bool
is_met_by thread pc breakpoint = breakpoint.address == pc && is_part thread breakpoint.part

-- whether the thread that runs next is at one of these
abbrev pub is_met : List Breakpoint → State → Bool
is_met breakpoints s = option_map_or (λ thread. list_any (is_met_by thread (registers_of s thread).pc) breakpoints) (current s) false

-- ---- bytes that are watched

-- whether memory has these bytes from a place on
unfoldable pub has_bytes : State → ℕ → List ℕ → Bool
has_bytes s place [] = true
has_bytes s place (byte ∷ bytes) = option_map_or (λ b. b == byte) (s.bytes place) false && has_bytes s ((place + 1) % 2 ^ 32) bytes

-- ---- the turn of a part

abbrev pub is_step : Event → Bool
is_step Step = true
is_step Tick = false
is_step (Irq number) = false
is_step (Write address word) = false
is_step (Read address) = false

-- whether the next event is an instruction of this thread
abbrev pub is_turn : Option ℕ → State → Event → Bool
is_turn None s event = false
is_turn (Some thread) s event = is_step event && option_map_or (λ t. t == thread) (current s) false

-- ---- both

-- whether the bytes of a place are others than those that are kept
abbrev pub has_changed : State → Watch → Bool
has_changed s watch = not (has_bytes s watch.place watch.bytes.items)

-- whether a run stops in a state
abbrev pub is_stop : Stops → State → Bool
is_stop stops s = is_met stops.breakpoints.items s || list_any (has_changed s) stops.watches.items

-- ---- in runs

-- the run stops where it is
abbrev pub StopsHere : Stops → Moment → Type 0
StopsHere stops run = is_stop stops (state_in run.parts) ≡ true

-- of the states of a run, that after so many events is no stop
abbrev pub Passes : Stops → Moment → ℕ → Type 0
Passes stops run count = (s : State) → shown run.image run.events count ≡ Ok s → is_stop stops s ≡ false

-- neither is it, nor is the event after it one of this thread
abbrev pub PassesTurn : Stops → Option ℕ → Moment → ℕ → Type 0
PassesTurn stops turn run count = (s : State) → shown run.image run.events count ≡ Ok s
    → (is_stop stops s || is_turn turn s (next_of run.events count)) ≡ false

-- the run is where it stops, or where the event is one of this thread
abbrev pub IsHalt : Stops → Option ℕ → Moment → Type 0
IsHalt stops turn run = (is_stop stops (state_in run.parts) || is_turn turn (state_in run.parts) (next_of run.events run.done)) ≡ true

-- of the states of a run, that after so many events is one where it stops, or where the event is one of this thread
abbrev pub HaltsAt : Stops → Option ℕ → Moment → ℕ → Type 0
HaltsAt stops turn run count = (s : State) → shown run.image run.events count ≡ Ok s
    → (is_stop stops s || is_turn turn s (next_of run.events count)) ≡ true

-- of the states from that after so many events on, and before another, this is the last such one, or there is none
abbrev pub IsLast : Stops → Option ℕ → Moment → ℕ → Option ℕ → ℕ → Type 0
IsLast stops turn run first None limit = (count : ℕ) → first ≤ count → count < limit → PassesTurn stops turn run count
IsLast stops turn run first (Some place) limit =
    (place < limit) × HaltsAt stops turn run place × ((count : ℕ) → place < count → count < limit → PassesTurn stops turn run count)

-- the event after so many events of a run is none of this thread
abbrev pub IsOther : Option ℕ → Moment → ℕ → Type 0
IsOther turn run count = (s : State) → shown run.image run.events count ≡ Ok s → is_turn turn s (next_of run.events count) ≡ false

-- the last event that a run did was one of this thread
abbrev pub HasTurned : Option ℕ → Moment → Type 0
HasTurned turn run = (count : ℕ) → run.done ≡ count + 1
    → (s : State) → shown run.image run.events count ≡ Ok s → is_turn turn s (next_of run.events count) ≡ true

-- a run went on by an event, which was none of this thread, and does not stop
abbrev pub GoesOn : Stops → Option ℕ → Moment → Moment → Type 0
GoesOn stops turn old new =
    (new.done ≡ old.done + 1) × IsShown new × (is_stop stops (state_in new.parts) ≡ false) × IsOther turn old old.done

-- these are moments of one run
abbrev pub AreOneRun : Moment → Moment → Type 0
AreOneRun old new = (new.image ≡ old.image) × (new.events ≡ old.events)
