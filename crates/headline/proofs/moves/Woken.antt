-- A thread that waits is woken after its call, with registers that fit there.
use Rattle.std.proofs.Common.{true, false, ℕ, ◌≡◌, ◌∙◌, Some, List, refl, sym, ap, subst}
use Rattle.std.specs.Prelude.{Contains}
use Rattle.headline.specs.measure_facts.Terms.{WritesOnly}
use Rattle.headline.specs.facts.Standing.{AllStand}
use Rattle.headline.specs.facts.Waiting.{WaitsAsAsked, WaitsSo}
use Rattle.model.specs.declared.labels.Label.{Label}
use Rattle.model.specs.Acceptance.Accepted.{IsAccepted}
use Rattle.headline.specs.moves.Ground.{SameGround}
use Rattle.model.specs.Acceptance.CallRules.{AfterCall}
use Rattle.model.specs.Acceptance.NotedStates.{PointState}
use Rattle.model.specs.Acceptance.ThreadInvariants.{IsWaiting, LieWithin, StandsAt, ThreadInvariant, WaitsThere, runs as runs_so, waits as waits_so, tcb_of}
use Rattle.model.specs.Images.Described.{Numbered, numbered_threads}
use Rattle.model.specs.Images.Image.{Image}
use Rattle.model.specs.Kernel.Scheduling.{is_runnable}
use Rattle.model.specs.Kernel.Soundness.{IsSound, ThreadIsSound}
use Rattle.model.specs.Kernel.State.{State, Status, Inactive, Runnable, Blocked, AwaitsReply, AwaitsHandler, ThreadObject, ThreadState}
use Rattle.model.specs.Kernel.Waits.{open_count}
use Rattle.model.specs.Machine.Effects.{advanced}
use Rattle.model.specs.Machine.ProgramMemory.{RegisterFile}
use Rattle.headline.specs.calls.Laws.{AreRegisters}
use Rattle.headline.specs.moves.Moving.{PassesWith}
use Rattle.headline.specs.moves.Laws.{Laws}
use Rattle.headline.proofs.moves.LeftAlone.{one-thread}
use Rattle.headline.proofs.moves.Passing.{ends-wait}
use Rattle.headline.proofs.moves.Standing.{touches-none}

-- what is written while a thread waits fits after its call
pub record FitsBehind (state : PointState) (left : AfterCall) (registers written : RegisterFile) : Type 0 where
  pub slots : left.slots ≡ state.slots
  pub pc : written.pc ≡ registers.pc
  pub only : WritesOnly registers written left.written
  pub within : LieWithin written left.ranges

-- a thread that runs waits for nothing
pub runs-free : (image : Image) (t : Numbered) (after : State) (next : ThreadState) → after.objects (tcb_of image t) ≡ Some (ThreadObject next) →
    next.status ≡ Runnable → WaitsAsAsked image t after
runs-free image t after next is runs own point state left there inside pc known call =
    subst (WaitsSo image t after state left) (sym runs ∙ ap (λ (u : ThreadState). u.status) (one-thread (after.objects (tcb_of image t)) next own is there)) tt

pub no-runner : (status : Status) → status ≡ Runnable → IsWaiting status → ⊥
no-runner Inactive is waits = waits
no-runner Runnable is waits = waits
no-runner (Blocked queue) is waits = absurd cc
no-runner AwaitsReply is waits = absurd cc
no-runner AwaitsHandler is waits = waits

pub runs-status : (status : Status) → is_runnable status ≡ true → status ≡ Runnable
runs-status Inactive is = absurd (let clash : false ≡ true = is in cc)
runs-status Runnable is = refl
runs-status (Blocked queue) is = absurd (let clash : false ≡ true = is in cc)
runs-status AwaitsReply is = absurd (let clash : false ≡ true = is in cc)
runs-status AwaitsHandler is = absurd (let clash : false ≡ true = is in cc)

module _ (laws : Laws) (bytes : List ℕ) (image : Image) (s : State) (labels later : List Label) (accepted : IsAccepted bytes image)
    (all : AllStand image s labels)
    (after : State) (sound : IsSound after) (store : SameGround image s after) (t : Numbered) (listed : Contains (numbered_threads image) t)
    (count : open_count (tcb_of image t) later ≡ open_count (tcb_of image t) labels)
    (own : ThreadState) (there : s.objects (tcb_of image t) ≡ Some (ThreadObject own)) (written : RegisterFile)
    (next : ThreadState) (is : after.objects (tcb_of image t) ≡ Some (ThreadObject next)) (runs : next.status ≡ Runnable)
    (goes : next.registers ≡ advanced written)
    (fits : (state : PointState) (left : AfterCall) → WaitsSo image t s state left own.status → AreRegisters own.registers state.ranges →
    FitsBehind state left own.registers written) where
  module _ (point : ℕ) (state : PointState) (stands : StandsAt image t s own point state) where
    registers-fine : AreRegisters own.registers state.ranges
    registers-fine =
        let fine : ThreadIsSound own = all.sound.threads.threads (tcb_of image t) own there in
        record {
          count = fine.registers;
          words = fine.words;
          long = laws.is_long bytes image t point state accepted listed stands.known;
          within =
              stands.registers;
        }

    wakes-at : WaitsThere image t point state → open_count (tcb_of image t) labels ≡ 0 → ThreadInvariant image t after later
    wakes-at waits none =
        let ecall = waits.0 in
        let left = waits.1.0 in
        let call = waits.1.1 in
        let wait = waits.1.2 in
        let fit = fits state left (all.wait t listed own point state left there stands.inside stands.pc stands.known call) registers-fine in
        let passes : PassesWith after (tcb_of image t) own state left = record {
          next = next;
          is = is;
          runs = runs;
          written = written;
          registers = goes;
          pc = fit.pc;
          only = fit.only;
          within = fit.within;
        } in
        ends-wait laws.stand_on image t s after own point state (touches-none bytes image t s after accepted listed all.sound sound store) stands laws.lead
        laws.ends left ecall call fit.slots passes
        later wait (count ∙ none)

  woken-from : IsWaiting own.status → ThreadInvariant image t s labels → ThreadInvariant image t after later
  woken-from waiting (runs_so other point state at status stands budget) =
      let same : other ≡ own = one-thread (s.objects (tcb_of image t)) other own at there in
      absurd (no-runner own.status (ap (λ (u : ThreadState). u.status) (sym same) ∙ status) waiting)
  woken-from waiting (waits_so other point state at status stands waits none) =
      let same : other ≡ own = one-thread (s.objects (tcb_of image t)) other own at there in
      wakes-at point state (subst (λ (u : ThreadState). StandsAt image t s u point state) same stands) waits none

  pub wakes-up : IsWaiting own.status → ThreadInvariant image t after later × WaitsAsAsked image t after
  wakes-up waiting = (woken-from waiting (all.stand t listed), runs-free image t after next is runs)
