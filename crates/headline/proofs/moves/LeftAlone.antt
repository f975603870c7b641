-- The invariant of a thread that is left alone still holds, and it waits for what it asked.
use Rattle.std.proofs.Common.{ℕ, ◌≡◌, ◌∙◌, Option, Some, List, pos, ◌+ℤ◌, ◌≤ℤ◌, refl, sym, ap, subst}
use Rattle.std.specs.Option.{option_map_or}
use Rattle.headline.specs.facts.Waiting.{WaitsAsAsked, WaitsSo}
use Rattle.model.specs.declared.labels.Label.{Label}
use Rattle.model.specs.Acceptance.CallRules.{AfterCall}
use Rattle.model.specs.Acceptance.Measures.{measured}
use Rattle.model.specs.Acceptance.NotedStates.{PointState}
use Rattle.model.specs.Acceptance.ThreadInvariants.{IsWaiting, IsWithinBudget, LieWithin, StandsAt, ThreadInvariant, WaitsThere, runs as runs_so}
use Rattle.model.specs.Acceptance.ThreadInvariants.{waits as waits_so, tcb_of}
use Rattle.model.specs.Images.Described.{Numbered}
use Rattle.model.specs.Images.Image.{Image}
use Rattle.model.specs.Kernel.State.{State, Status, Inactive, Runnable, Blocked, AwaitsReply, AwaitsHandler, Object, ThreadObject, ThreadState, as_thread}
use Rattle.model.specs.Kernel.State.{new_thread}
use Rattle.model.specs.Kernel.Waits.{open_count}
use Rattle.model.specs.Machine.ProgramMemory.{RegisterFile}
use Rattle.headline.specs.kept.Laws.{StandsOn}
use Rattle.headline.specs.moves.Moving.{GoesOnAs, IsLeftAlone, WaitsOn}

-- one thread is at an offset
pub one-thread : (object : Option Object) (a b : ThreadState) → object ≡ Some (ThreadObject a) → object ≡ Some (ThreadObject b) → a ≡ b
one-thread object a b first second =
    ap (λ (o : Option Object). option_map_or (λ (u : ThreadState). u) (as_thread o) new_thread) (sym first ∙ second)

module _ (image : Image) (t : Numbered) (s after : State) (alone : IsLeftAlone image t s after) (queued : WaitsOn s after (tcb_of image t)) where
  still-waits : (state : PointState) (left : AfterCall) (status : Status) → WaitsSo image t s state left status → WaitsSo image t after state left status
  still-waits state left Inactive so = so
  still-waits state left Runnable so = so
  still-waits state left AwaitsReply so = so
  still-waits state left AwaitsHandler so = so
  still-waits state left (Blocked queue) so = record {
    capability = so.capability;
    named = so.named;
    leads = so.leads;
    sends = λ e x there among own. let old = queued.sends queue e x there among own in so.sends old.0 x old.1 old.2 own;
    receives = λ e there among. let old = queued.receives queue e there among in so.receives old.0 old.1 old.2;
    waits = λ n there among. let old = queued.waits queue n there among in so.waits old.0 old.1 old.2;
  }

  module _ (old : ThreadState) (there : s.objects (tcb_of image t) ≡ Some (ThreadObject old)) (goes : GoesOnAs after (tcb_of image t) old) where
    still-asked : WaitsAsAsked image t s → WaitsAsAsked image t after
    still-asked asked own point state left is inside pc known call =
        let same : goes.new ≡ own = one-thread (after.objects (tcb_of image t)) goes.new own goes.is is in
        let registers : own.registers ≡ old.registers = ap (λ (u : ThreadState). u.registers) (sym same) ∙ goes.registers in
        let status : old.status ≡ own.status = sym goes.status ∙ ap (λ (u : ThreadState). u.status) same in
        let before = asked old point state left there inside (ap (λ (r : RegisterFile). r.pc) (sym registers) ∙ pc) known call in
        still-waits state left own.status (subst (WaitsSo image t s state left) status before)

    module _ (stand-on : StandsOn) (point : ℕ) (state : PointState) (stands : StandsAt image t s old point state) where
      still-stands : StandsAt image t after goes.new point state
      still-stands =
          stand-on alone.bytes image t s after old goes.new point point state state alone.accepted alone.listed alone.before alone.behind alone.untouched stands
          stands.inside stands.known (ap (λ (r : RegisterFile). r.pc) goes.registers ∙ stands.pc)
          (subst (λ (r : RegisterFile). LieWithin r state.ranges) (sym goes.registers) stands.registers) refl

      still-runs : (labels later : List Label) → open_count (tcb_of image t) later ≡ open_count (tcb_of image t) labels → old.status ≡ Runnable
          → IsWithinBudget image t labels old state → ThreadInvariant image t after later
      still-runs labels later count status budget =
          runs_so goes.new point state goes.is (goes.status ∙ status) still-stands
          (subst (λ (n : ℕ). (pos n +ℤ measured state.measure goes.new.registers) ≤ℤ pos t.thread.header.budget) (sym count)
          (subst (λ (r : RegisterFile). (pos (open_count (tcb_of image t) labels) +ℤ measured state.measure r) ≤ℤ pos t.thread.header.budget)
          (sym goes.registers) budget))

      still-blocked : (labels later : List Label) → open_count (tcb_of image t) later ≡ open_count (tcb_of image t) labels → IsWaiting old.status
          → WaitsThere image t point state → open_count (tcb_of image t) labels ≡ 0 → ThreadInvariant image t after later
      still-blocked labels later count status waits none =
          waits_so goes.new point state goes.is (subst IsWaiting (sym goes.status) status) still-stands waits (count ∙ none)

  left-alone : StandsOn → (labels later : List Label) →
      ((old : ThreadState) → s.objects (tcb_of image t) ≡ Some (ThreadObject old) → GoesOnAs after (tcb_of image t) old)
      → open_count (tcb_of image t) later ≡ open_count (tcb_of image t) labels → ThreadInvariant image t s labels → WaitsAsAsked image t s
      → ThreadInvariant image t after later × WaitsAsAsked image t after
  left-alone stand-on labels later goes count (runs_so own point state there status stands budget) asked =
      (still-runs own there (goes own there) stand-on point state stands labels later count status budget, still-asked own there (goes own there) asked)
  left-alone stand-on labels later goes count (waits_so own point state there status stands waits none) asked =
      (still-blocked own there (goes own there) stand-on point state stands labels later count status waits none, still-asked own there (goes own there) asked)

pub stands-alone : StandsOn → (image : Image) (t : Numbered) (s after : State) (labels later : List Label) → IsLeftAlone image t s after
    → ((old : ThreadState) → s.objects (tcb_of image t) ≡ Some (ThreadObject old) → GoesOnAs after (tcb_of image t) old) → WaitsOn s after (tcb_of image t)
    → open_count (tcb_of image t) later ≡ open_count (tcb_of image t) labels → ThreadInvariant image t s labels → WaitsAsAsked image t s
    → ThreadInvariant image t after later × WaitsAsAsked image t after
stands-alone stand-on image t s after labels later alone goes queued count stands asked =
    left-alone image t s after alone queued stand-on labels later goes count stands asked
