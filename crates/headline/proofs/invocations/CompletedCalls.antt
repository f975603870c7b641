-- All threads after a call that is completed: the thread that makes it goes on with its answer, if it gets one.
use Rattle.std.proofs.Common.{ℕ, ◌≡◌, ◌∙◌, false, Some, List, [], ◌∷◌, ◌++◌, ◌+◌, refl, sym, ap, subst}
use Rattle.std.specs.Prelude.{Contains}
use Rattle.headline.specs.measure_facts.Terms.{WritesOnly}
use Rattle.headline.specs.facts.Standing.{AllStand}
use Rattle.model.specs.declared.labels.Label.{Label}
use Rattle.model.specs.declared.labels.Label.TheVariants.{Ran}
use Rattle.model.specs.declared.labels.Outcome.TheVariants.{Completed}
use Rattle.model.specs.declared.instructions.Register.{Register}
use Rattle.model.specs.declared.ranges.Range.{Range}
use Rattle.model.specs.Acceptance.Accepted.{IsAccepted}
use Rattle.model.specs.Acceptance.CallRules.{AfterCall}
use Rattle.model.specs.Acceptance.NotedStates.{PointState}
use Rattle.model.specs.Acceptance.ThreadInvariants.{LieWithin, tcb_of}
use Rattle.model.specs.Images.Described.{Numbered, numbered_threads}
use Rattle.model.specs.Images.Image.{Image}
use Rattle.model.specs.Kernel.Messages.{a0, a1, info_word, passes}
use Rattle.model.specs.Kernel.Soundness.{IsSound}
use Rattle.model.specs.Kernel.State.{State, ThreadObject, ThreadState}
use Rattle.model.specs.Kernel.Steps.{answered, completed, memory_base, registers_of}
use Rattle.model.specs.declared.system_calls.SendCall.{SendCall}
use Rattle.model.specs.declared.system_calls.SendCall.TheVariants.{Calling, Sending, Trying}
use Rattle.model.specs.Machine.Effects.{advanced}
use Rattle.model.specs.Machine.ProgramMemory.{RegisterFile, write}
use Rattle.headline.specs.moves.Moving.{CallsAt}
use Rattle.headline.proofs.moves.Laws.{IsCounted, counted, passed, passed-there, went-here, went-there}
use Rattle.headline.specs.invocations.Answered.{DerivesFromSome, IsAnswered}
use Rattle.headline.specs.invocations.Changes.{ChangesOwn}
use Rattle.headline.specs.invocations.Mirrors.{Mirrors}
use Rattle.headline.proofs.invocations.AnsweredCalls.{completed-is}
use Rattle.headline.proofs.invocations.ChangedThreads.{LawsOfCalls, stand-with}
use Rattle.headline.specs.calls.Laws.{AreRegisters}
use Rattle.headline.proofs.facts.Laws.{at-place}

module _ (laws : LawsOfCalls) (bytes : List ℕ) (image : Image) (t : Numbered) (s : State) (labels later : List Label) (own : ThreadState) (point : ℕ)
    (state : PointState) (left : AfterCall) (after : State) (accepted : IsAccepted bytes image) (all : AllStand image s labels)
    (listed : Contains (numbered_threads image) t)
    (at : CallsAt image t s labels own point state left) (m : Mirrors image t s state.slots) (c : ChangesOwn image t s after left.slots)
    (hung : DerivesFromSome image t after)
    (counts : IsCounted image t labels later false) where
  abbrev tcb : ℕ
  tcb = tcb_of image t

  there-still : after.objects (tcb_of image t) ≡ Some (ThreadObject own)
  there-still = c.threads tcb own at.there

  abbrev Stand : State → Type 0
  Stand x = IsSound x → AllStand image x later

  gets-nothing : left.is_wait ≡ false → left.ranges ≡ state.ranges → left.written ≡ [] → Stand (passes after (tcb_of image t))
  gets-nothing wait ranges written sound =
      stand-with laws bytes image t s labels later own point state left after accepted all listed at m c hung counts
      (passes after tcb).objects (went-there after tcb) sound wait (record {
        next = record own { registers = advanced own.registers };
        is = went-here after tcb own there-still;
        runs = at.status;
        written = own.registers;
        registers = refl;
        pc = refl;
        only = subst (λ (which : List Register). WritesOnly own.registers own.registers which) (sym written) (λ k inside none. refl);
        within = subst (λ (known : List Range). LieWithin own.registers known) (sym ranges) at.stands.registers;
      })

  gets-result : IsAnswered Calling state left → Stand (answered after (tcb_of image t) Calling 0)
  gets-result asks sound =
      let r : RegisterFile = write (write (registers_of after tcb) a0 0) a1 (info_word 0 0) in
      let written : RegisterFile = write (write own.registers a0 0) a1 0 in
      let fine = all.sound.threads.threads tcb own at.there in
      let registers : AreRegisters own.registers state.ranges =
      record {
        count = fine.registers;
        words = fine.words;
        long = laws.is_long bytes image t point state accepted listed at.stands.known;
        within = at.stands.registers;
      } in
      let fit = laws.result own.registers state.ranges registers in
      stand-with laws bytes image t s labels later own point state left after accepted all listed at m c hung counts
      (answered after tcb Calling 0).objects (passed-there after tcb r) sound asks.is_wait (record {
        next = record own { registers = advanced written };
        is = passed after tcb r
            ∙ ap (λ (u : ThreadState). Some (ThreadObject (record u { registers = advanced (write (write u.registers a0 0) a1 0) })))
            (at-place after tcb own there-still);
        runs = at.status;
        written = written;
        registers = refl;
        pc = refl;
        only = subst (λ (which : List Register). WritesOnly own.registers written which) (sym asks.written) fit.1;
        within = subst (λ (known : List Range). LieWithin written known) (sym asks.ranges) fit.0;
      })

  by-kind : (kind : SendCall) → IsAnswered kind state left → Stand (answered after (tcb_of image t) kind 0)
  by-kind Calling asks = gets-result asks
  by-kind Sending asks = gets-nothing asks.is_wait asks.ranges asks.written
  by-kind Trying asks = gets-nothing asks.is_wait asks.ranges asks.written

  stands-completed : (kind : SendCall) → IsAnswered kind state left → Stand (completed after (tcb_of image t) kind)
  stands-completed kind asks = subst Stand (sym (completed-is after tcb own kind there-still at.status)) (by-kind kind asks)

pub all-completed : LawsOfCalls → (bytes : List ℕ) (image : Image) (t : Numbered) (s : State) (labels : List Label) (own : ThreadState)
    (point : ℕ) (state : PointState) (left : AfterCall) (kind : SendCall) (after : State) → IsAccepted bytes image → AllStand image s labels →
    Contains (numbered_threads image) t
    → CallsAt image t s labels own point state left → Mirrors image t s state.slots → ChangesOwn image t s after left.slots → DerivesFromSome image t after
    → IsAnswered kind state left → IsSound (completed after (tcb_of image t) kind)
    → AllStand image (completed after (tcb_of image t) kind) (labels ++ Ran (memory_base + tcb_of image t) own.registers.pc Completed ∷ [])
all-completed laws bytes image t s labels own point state left kind after accepted all listed at m c hung asks =
    stands-completed laws bytes image t s labels (labels ++ Ran (memory_base + tcb_of image t) own.registers.pc Completed ∷ []) own point state left after
    accepted all listed at m c hung (counted image t labels own.registers.pc Completed) kind asks
