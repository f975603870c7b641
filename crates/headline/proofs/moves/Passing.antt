-- A thread begins to wait, or its system call passes.
use Rattle.std.proofs.Common.{ℕ, ◌≡◌, ◌∙◌, ◌+◌, ◌*◌, ◌%◌, ◌^◌, ◌<◌, ◌≤◌, Some, Ok, List, ℤ, pos, ◌+ℤ◌, ◌≤ℤ◌, true, false, refl, sym, ap, subst, arith}
use Rattle.std.proofs.lemmas.Int.{ints}
use Rattle.headline.specs.calls.Behind.{LeadsBehind}
use Rattle.model.specs.declared.instructions.Instr.TheVariants.{Ecall}
use Rattle.model.specs.declared.labels.Label.{Label}
use Rattle.model.specs.Acceptance.CallRules.{AfterCall}
use Rattle.model.specs.Acceptance.Measures.{measured}
use Rattle.model.specs.Acceptance.NotedStates.{PointState}
use Rattle.model.specs.Acceptance.PointStates.{address_of, call_at, instruction_at}
use Rattle.model.specs.Acceptance.ThreadInvariants.{IsWaiting, IsWithinBudget, LieWithin, StandsAt, ThreadInvariant, WaitsThere, runs as runs_so}
use Rattle.model.specs.Acceptance.ThreadInvariants.{waits as waits_so, tcb_of}
use Rattle.model.specs.Images.Described.{Numbered}
use Rattle.model.specs.Images.Image.{Image}
use Rattle.model.specs.Kernel.State.{State, ThreadObject, ThreadState}
use Rattle.model.specs.Kernel.Waits.{open_count}
use Rattle.model.specs.Machine.ProgramMemory.{RegisterFile}
use Rattle.headline.specs.facts.Laws.{Ends}
use Rattle.headline.proofs.steps.Laws.{within-still}
use Rattle.headline.specs.calls.Laws.{LeadsOn}
use Rattle.headline.specs.kept.Laws.{StandsOn}
use Rattle.headline.specs.moves.Moving.{IsLeftAlone, PassesWith}

pub next-address : (base words point : ℕ) → base + 4 * words ≤ 2 ^ 31 → point + 1 < words → (base + 4 * point + 4) % 2 ^ 32 ≡ base + 4 * (point + 1)
next-address base words point ends inside = omega (arith, ends, inside)

first-within : (budget : ℕ) (value : ℤ) → value ≤ℤ pos budget → (pos 0 +ℤ value) ≤ℤ pos budget
first-within budget value within = grind (arith, ints, within)

module _ (stand-on : StandsOn) (image : Image) (t : Numbered) (s after : State) (own : ThreadState) (point : ℕ) (state : PointState)
    (alone : IsLeftAlone image t s after) (stands : StandsAt image t s own point state) where
  pub begins : (next : ThreadState) (later : List Label) → WaitsThere image t point state → after.objects (tcb_of image t) ≡ Some (ThreadObject next) →
      IsWaiting next.status
      → next.registers ≡ own.registers → open_count (tcb_of image t) later ≡ 0 → ThreadInvariant image t after later
  begins next later waits is status registers none =
      let still : StandsAt image t after next point state =
      stand-on alone.bytes image t s after own next point point state state alone.accepted alone.listed alone.before alone.behind alone.untouched stands
      stands.inside stands.known (ap (λ (r : RegisterFile). r.pc) registers ∙ stands.pc)
      (subst (λ (r : RegisterFile). LieWithin r state.ranges) (sym registers) stands.registers) refl in
      waits_so next point state is status still waits none

  module _ (lead : LeadsOn) (ends : Ends) (left : AfterCall) (ecall : instruction_at t.thread point ≡ Some Ecall)
      (call : call_at image t point state ≡ Some (Ok left))
      (slots : left.slots ≡ state.slots) (passes : PassesWith after (tcb_of image t) own state left) where
    leads : LeadsBehind image t point state left
    leads = lead alone.bytes image t point state left alone.accepted alone.listed stands.inside stands.known ecall call

    abbrev written : RegisterFile
    written = passes.written

    pc-behind : passes.next.registers.pc ≡ address_of t.thread (point + 1)
    pc-behind =
        ap (λ (r : RegisterFile). r.pc) passes.registers
        ∙ ap (λ (n : ℕ). (n + 4) % 2 ^ 32) (passes.pc ∙ stands.pc)
        ∙ next-address t.thread.header.base t.thread.header.words point (ends alone.bytes image t alone.accepted alone.listed) leads.inside

    next-stands : StandsAt image t after passes.next (point + 1) leads.next
    next-stands =
        stand-on alone.bytes image t s after own passes.next point (point + 1) state leads.next alone.accepted alone.listed alone.before alone.behind
        alone.untouched stands
        leads.inside leads.known pc-behind (subst (λ (r : RegisterFile). LieWithin r leads.next.ranges) (sym passes.registers)
        (leads.ranges written passes.within))
        (leads.kept slots)

    goes-on : (later : List Label) → (pos (open_count (tcb_of image t) later) +ℤ measured leads.next.measure written) ≤ℤ pos t.thread.header.budget →
        ThreadInvariant image t after later
    goes-on later budget =
        runs_so passes.next (point + 1) leads.next passes.is passes.runs next-stands
        (subst (λ (r : RegisterFile). (pos (open_count (tcb_of image t) later) +ℤ measured leads.next.measure r) ≤ℤ pos t.thread.header.budget)
        (sym passes.registers) budget)

    pub ends-wait : (later : List Label) → left.is_wait ≡ true → open_count (tcb_of image t) later ≡ 0 → ThreadInvariant image t after later
    ends-wait later wait none =
        goes-on later (subst (λ (n : ℕ). (pos n +ℤ measured leads.next.measure written) ≤ℤ pos t.thread.header.budget) (sym none)
        (first-within t.thread.header.budget (measured leads.next.measure written)
        (leads.within wait own.registers written passes.only stands.registers passes.within)))

    pub passes-on : (labels later : List Label) → left.is_wait ≡ false → IsWithinBudget image t labels own state
        → open_count (tcb_of image t) later ≡ open_count (tcb_of image t) labels + 1 → ThreadInvariant image t after later
    passes-on labels later wait budget more =
        goes-on later (subst (λ (n : ℕ). (pos n +ℤ measured leads.next.measure written) ≤ℤ pos t.thread.header.budget) (sym more)
        (within-still (open_count (tcb_of image t) labels) t.thread.header.budget (measured state.measure own.registers) (measured leads.next.measure written)
        budget
        (leads.falls wait own.registers written passes.only stands.registers passes.within)))
