-- They are named outright.
use Rattle.std.proofs.Common.{ℕ, ◌≡◌, Bool, true, false, nat_le, if◌then◌else◌, Option, Some, None, ◌-◌, refl, sym, ap, ◌∙◌}
use Rattle.std.specs.Option.{option_map_or}
use Rattle.model.specs.Capabilities.Slots.{Slots}
use Rattle.model.specs.Kernel.Scheduling.{current, ticked, yielded}
use Rattle.model.specs.Kernel.State.{State, thread_at, with_thread}
use Rattle.soundness.proofs.Laws.{raise-machine, tick-machine}
use Rattle.model_laws.proofs.narrow_laws.ticks_and_interrupts_are_what_they_are.Goals as goal

-- a tick leaves all bytes
ticked-bytes : (s : State) (thread : ℕ) → (ticked s thread).bytes ≡ s.bytes
ticked-bytes s thread =
    elim (nat_le (thread_at s thread).slice 1) as (λ (b : Bool). (if b then yielded s thread else
    with_thread s thread (record (thread_at s thread) { slice = (thread_at s thread).slice - 1 })).bytes ≡ s.bytes) [ true ↦ refl | false ↦ refl ]

by-current : (s : State) (o : Option ℕ) → (option_map_or (ticked s) o s).bytes ≡ s.bytes
by-current s None = refl
by-current s (Some thread) = ticked-bytes s thread

pub returns-clause-bytes : goal.returns-clause-bytes
returns-clause-bytes c = λ image s after place differ within.
    differ (sym (ap (λ (x : State). x.bytes place) within ∙ ap (λ (all : ℕ → Option ℕ). all place) (by-current s (current s))))

pub returns-clause-slots : goal.returns-clause-slots
returns-clause-slots c = λ image s after slot differ within.
    differ (sym (ap (λ (x : State). x.slots slot) within ∙ ap (λ (all : Slots). all slot) (tick-machine s).slots))

pub returns-clause-irq_slots : goal.returns-clause-irq_slots
returns-clause-irq_slots c = λ image s after number slot differ within.
    differ (sym (ap (λ (x : State). x.slots slot) within ∙ ap (λ (all : Slots). all slot) (raise-machine s number).slots))
