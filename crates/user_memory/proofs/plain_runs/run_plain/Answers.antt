-- What is left is the state after so many steps, so it is sound.
use Rattle.std.proofs.Common.{◌≡◌, ◌∙◌, ◌++◌, ◌<◌, ◌^◌, ℕ, Option, Some, None, IfSome, ap, rules, subst, sym}
use Rattle.std.specs.List.{flat_map}
use Rattle.model.specs.Kernel.Messages.{with_registers}
use Rattle.model.specs.Kernel.Scheduling.{current}
use Rattle.model.specs.Kernel.Soundness.{IsSound}
use Rattle.model.specs.Kernel.State.{State}
use Rattle.model.specs.Kernel.Steps.{registers_of, runs, state_after, trace}
use Rattle.model.specs.Machine.ProgramMemory.{RegisterFile}
use Rattle.model.specs.declared.instructions.Exec.{Exec}
use Rattle.objects.specs.Lives.{state_in}
use Rattle.soundness.proofs.Laws.{current-runs}
use Rattle.user_memory.proofs.KeptSteps.{is-next}
use Rattle.user_memory.proofs.Running.{registers-agree}
use Rattle.user_memory.proofs.ThreadsNear.{thread-near}
use Rattle.user_memory.proofs.Unchanged.{same-registers}
use Rattle.user_memory.specs.Runs.{IsNext, comes_of, steps}
use Rattle.user_memory.proofs.plain_runs.run_plain.Goals as goal

-- what comes next of the state with these registers, comes of the state that is left
known : (s k : State) (thread : ℕ) (r : RegisterFile) (effect : Option Exec) → s ≡ with_registers k thread r
    → IsSound (with_registers k thread r) → thread < 2 ^ 24 → current k ≡ Some thread
    → IfSome effect (λ x. runs (with_registers k thread r) thread ≡ comes_of (with_registers k thread r) thread x) → IfSome effect (IsNext s thread r.pc)
known s k thread r None same sound near is comes = tt
known s k thread r (Some x) same sound near is comes = is-next k thread r s x same sound near is comes

pub run_on-done-requires : goal.run_on-done-requires
run_on-done-requires g c =
    let s : State = state_in g.S.SlotMap.slots g.S.SlotStore.memory c.args.kernel.now in
    let sound = subst (λ k. IsSound (state_in g.S.SlotMap.slots g.S.SlotStore.memory k)) c.kernel.view_is c.kernel.invariant.sound in
    let there = (current-runs s sound.threads c.args.thread c.requires).kind in
    record { near = thread-near s c.args.thread sound there; there = there; is_current = c.requires; own = c.code_of-code.ensures }

pub invariant_of-kernel : goal.invariant_of-kernel
invariant_of-kernel g c =
    let s : State = state_in g.S.SlotMap.slots g.S.SlotStore.memory c.args.kernel.now in
    let k : State = state_in g.S.SlotMap.slots g.S.SlotStore.memory c.run_on-done.new.kernel in
    let sound = subst (λ k. IsSound (state_in g.S.SlotMap.slots g.S.SlotStore.memory k)) c.kernel.view_is c.kernel.invariant.sound in
    let there = (current-runs s sound.threads c.args.thread c.requires).kind in
    let own : c.registers-registers.result ≡ registers_of s c.args.thread = search rules in
    let start : with_registers s c.args.thread c.registers-registers.result ≡ s = ap (with_registers s c.args.thread) own
    ∙ same-registers s c.args.thread there in
    let written : state_in g.S.SlotMap.slots g.S.SlotStore.memory c.set_registers.new.self ≡ with_registers k c.args.thread c.run_on-done.new.registers =
    search rules in
    let left : state_in g.S.SlotMap.slots g.S.SlotStore.memory c.set_registers.new.self ≡ state_after s (steps c.run_on-done.result.0) =
    written ∙ c.run_on-done.ensures.state ∙ ap (λ (t : State). state_after t (steps c.run_on-done.result.0)) start in
    record {
      sound = subst (λ (t : State). IsSound t) (sym left) (c.events_keep_soundness.ensures s (steps c.run_on-done.result.0) sound);
      agrees = registers-agree _ _ c.args.thread c.run_on-done.new.registers _ _ c.kernel-2.invariant.agrees c.set_registers.ensures.state
          c.set_registers.ensures.beside.bytes;
    }

pub returns-clause-state : goal.returns-clause-state
returns-clause-state g c =
    let s : State = state_in g.S.SlotMap.slots g.S.SlotStore.memory c.args.kernel.now in
    let k : State = state_in g.S.SlotMap.slots g.S.SlotStore.memory c.run_on-done.new.kernel in
    let sound = subst (λ k. IsSound (state_in g.S.SlotMap.slots g.S.SlotStore.memory k)) c.kernel.view_is c.kernel.invariant.sound in
    let there = (current-runs s sound.threads c.args.thread c.requires).kind in
    let own : c.registers-registers.result ≡ registers_of s c.args.thread = search rules in
    let start : with_registers s c.args.thread c.registers-registers.result ≡ s = ap (with_registers s c.args.thread) own
    ∙ same-registers s c.args.thread there in
    let written : state_in g.S.SlotMap.slots g.S.SlotStore.memory c.set_registers.new.self ≡ with_registers k c.args.thread c.run_on-done.new.registers =
    search rules in
    written ∙ c.run_on-done.ensures.state ∙ ap (λ (t : State). state_after t (steps c.run_on-done.result.0)) start

pub returns-clause-labels : goal.returns-clause-labels
returns-clause-labels g c =
    let s : State = state_in g.S.SlotMap.slots g.S.SlotStore.memory c.args.kernel.now in
    let sound = subst (λ k. IsSound (state_in g.S.SlotMap.slots g.S.SlotStore.memory k)) c.kernel.view_is c.kernel.invariant.sound in
    let there = (current-runs s sound.threads c.args.thread c.requires).kind in
    let own : c.registers-registers.result ≡ registers_of s c.args.thread = search rules in
    let start : with_registers s c.args.thread c.registers-registers.result ≡ s = ap (with_registers s c.args.thread) own
    ∙ same-registers s c.args.thread there in
    c.run_on-done.ensures.labels ∙ ap (λ (t : State). g.L.Labels.seen c.args.labels.now ++ flat_map g.L.Labels.kept (trace t (steps c.run_on-done.result.0)))
    start

pub returns-clause-next : goal.returns-clause-next
returns-clause-next g c =
    let first : State = state_in g.S.SlotMap.slots g.S.SlotStore.memory c.args.kernel.now in
    let k : State = state_in g.S.SlotMap.slots g.S.SlotStore.memory c.run_on-done.new.kernel in
    let s : State = state_in g.S.SlotMap.slots g.S.SlotStore.memory c.set_registers.new.self in
    let r = c.run_on-done.new.registers in
    let t = c.args.thread in
    let sound = subst (λ k. IsSound (state_in g.S.SlotMap.slots g.S.SlotStore.memory k)) c.kernel.view_is c.kernel.invariant.sound in
    let there = (current-runs first sound.threads t c.requires).kind in
    let own : c.registers-registers.result ≡ registers_of first t = search rules in
    let start : with_registers first t c.registers-registers.result ≡ first = ap (with_registers first t) own ∙ same-registers first t there in
    let written : s ≡ with_registers k t r = search rules in
    let left = c.run_on-done.ensures.state ∙ ap (λ (u : State). state_after u (steps c.run_on-done.result.0)) start in
    let kept = subst (λ (u : State). IsSound u) (sym left) (c.events_keep_soundness.ensures first (steps c.run_on-done.result.0) sound) in
    subst (λ (at : ℕ). IfSome c.run_on-done.result.1 (IsNext s t at)) (sym c.pc-pc.ensures)
    (known s k t r c.run_on-done.result.1 written kept c.run_on-done.ensures.ready.near c.run_on-done.ensures.ready.is_current
    c.run_on-done.ensures.effect)
