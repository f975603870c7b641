-- The current thread goes on by what is known of its next instruction.
use Rattle.objects.specs.Lives.{state_in}
use Rattle.model.specs.Kernel.State.{State}
use Rattle.model.specs.Kernel.Steps.{Done, memory_base, ran, registers_of, step}
use Rattle.model.specs.declared.events.Event.TheVariants.{Step}
use Rattle.model.specs.declared.instructions.Exec.{Exec}
use Rattle.model.specs.declared.labels.Label.{Label}
use Rattle.model.specs.declared.labels.Label.TheVariants.{Idle, Ran}
use Rattle.std.proofs.Common.{ℕ, ◌≡◌, ◌∙◌, ◌+◌, IfSome, Option, ap, subst, sym}
use Rattle.std.specs.Option.{option_map_or}
use Rattle.user_memory.specs.Runs.{IsNext, comes_of}
use Rattle.kernel.proofs.runs.step_after.Goals as goal

stepped : (s : State) (thread at : ℕ) (effect : Exec) → IsNext s thread at effect →
    step s Step ≡ ((comes_of s thread effect).0, Ran (memory_base + thread) at (comes_of s thread effect).1)
unfolding step
stepped s thread at effect next =
    ap (λ (o : Option ℕ). option_map_or (ran s) o (s, Idle)) next.is_current
    ∙ ap (λ (d : Done). (d.0, Ran (memory_base + thread) (registers_of s thread).pc d.1)) next.comes
    ∙ ap (λ (pc : ℕ). ((comes_of s thread effect).0, Ran (memory_base + thread) pc (comes_of s thread effect).1)) (sym next.place)

pub go_on-outcome-requires : goal.go_on-outcome-requires
go_on-outcome-requires g c =
    let s = state_in g.S.SlotMap.slots g.S.SlotStore.memory c.args.kernel.now in
    let next = subst (λ (o : Option Exec). IfSome o (IsNext s c.args.run.thread c.args.run.pc)) c.in-Some.is c.requires in
    next.running

pub returns-in-Some : goal.returns-in-Some
returns-in-Some g c =
    let s = state_in g.S.SlotMap.slots g.S.SlotStore.memory c.args.kernel.now in
    let next = subst (λ (o : Option Exec). IfSome o (IsNext s c.args.run.thread c.args.run.pc)) c.in-Some.is c.requires in
    let does = stepped s c.args.run.thread c.args.run.pc c.in-Some.effect next in
    record {
      state = c.go_on-outcome.ensures.state ∙ ap (λ (x : State × Label). x.0) (sym does);
      label = ap (Ran (memory_base + c.args.run.thread) c.args.run.pc) c.go_on-outcome.ensures.outcome ∙ ap (λ (x : State × Label). x.1) (sym does);
    }
