-- System calls that move nobody but the thread that makes them: Yield, PutChar, the end of Reply, and the answer to a signal.
use Rattle.std.proofs.Common.{ℕ, ◌≡◌, ◌≢◌, ◌∙◌, ◌==◌, false, Some, List, [], ◌∷◌, pos, ◌+ℤ◌, ◌≤ℤ◌, refl, sym, ap, subst}
use Rattle.std.specs.Prelude.{Contains}
use Rattle.std.proofs.lemmas.Bool.{eqb-true, eqb-false}
use Rattle.headline.specs.facts.Standing.{AllStand}
use Rattle.headline.specs.facts.Waiting.{WaitsAsAsked}
use Rattle.headline.proofs.facts.Laws.{at-place}
use Rattle.model.specs.declared.labels.Label.{Label}
use Rattle.model.specs.Acceptance.Accepted.{IsAccepted}
use Rattle.headline.specs.moves.Ground.{SameGround}
use Rattle.model.specs.Acceptance.CallRules.{AfterCall, changes_nothing, known_behind, with_answer}
use Rattle.model.specs.Acceptance.Measures.{measured}
use Rattle.model.specs.Acceptance.NotedStates.{PointState}
use Rattle.model.specs.Acceptance.ThreadInvariants.{LieWithin, ThreadInvariant, tcb_of}
use Rattle.model.specs.Images.Described.{Numbered, numbered_threads}
use Rattle.model.specs.Images.Image.{Image}
use Rattle.model.specs.Kernel.Messages.{a0, a1, info_word, passes, passes_with}
use Rattle.model.specs.Kernel.Scheduling.{full_slice, yielded}
use Rattle.model.specs.Kernel.Soundness.{IsSound}
use Rattle.model.specs.Kernel.State.{State, ThreadObject, ThreadState, thread_at}
use Rattle.model.specs.Kernel.Steps.{registers_of}
use Rattle.model.specs.Kernel.Waits.{open_count}
use Rattle.model.specs.Machine.Effects.{advanced}
use Rattle.model.specs.Machine.ProgramMemory.{RegisterFile, write}
use Rattle.headline.specs.moves.Moving.{CallsAt, PassesWith}
use Rattle.headline.specs.moves.Resting.{OthersRest}
use Rattle.headline.specs.moves.Laws.{Laws}
use Rattle.headline.proofs.moves.Calling.{IsCounted, own-control, own-passes, own-registers, rest-by-threads}
use Rattle.headline.proofs.moves.Places.{passed, passed-there, went-here, went-there, with-here, with-there}
use Rattle.headline.proofs.moves.Standing.{all-stand, touches-none}

-- ---- what is true where the thread yields

yields-here : (s : State) (x : ℕ) (t : ThreadState) → s.objects x ≡ Some (ThreadObject t)
    → (yielded s x).objects x ≡ Some (ThreadObject (record t { slice = full_slice }))
yields-here s x t is =
    with-here s x (record (thread_at s x) { slice = full_slice })
    ∙ ap (λ (u : ThreadState). Some (ThreadObject (record u { slice = full_slice }))) (at-place s x t is)

yields-there : (s : State) (x y : ℕ) → y ≢ x → (yielded s x).objects y ≡ s.objects y
yields-there s x y other = with-there s x (record (thread_at s x) { slice = full_slice }) y other

-- ---- the thread is still at its call

module _ (laws : Laws) (bytes : List ℕ) (image : Image) (s : State) (labels : List Label) (accepted : IsAccepted bytes image) (all : AllStand image s labels)
    (t : Numbered) (listed : Contains (numbered_threads image) t) (own : ThreadState) (point : ℕ) (state : PointState) (left : AfterCall)
    (at : CallsAt image t s labels own point state left) where
  -- where slots and bytes stay, and its own registers and status
  pub calls-on : (after : State) → IsSound after → SameGround image s after → (next : ThreadState) → after.objects (tcb_of image t) ≡ Some (ThreadObject next)
      → next.status ≡ own.status → next.registers ≡ own.registers → CallsAt image t after labels next point state left
  calls-on after sound store next there status registers = record {
    there = there;
    status = status ∙ at.status;
    stands = laws.stand_on bytes image t s after own next point point state state accepted listed all.sound sound
        (touches-none bytes image t s after accepted listed all.sound sound store).untouched at.stands at.stands.inside at.stands.known
        (ap (λ (r : RegisterFile). r.pc) registers ∙ at.stands.pc) (subst (λ (r : RegisterFile). LieWithin r state.ranges) (sym registers) at.stands.registers)
        refl;
    budget = subst (λ (r : RegisterFile). (pos (open_count (tcb_of image t) labels) +ℤ measured state.measure r) ≤ℤ pos t.thread.header.budget) (sym registers)
        at.budget;
    ecall = at.ecall;
    call = at.call;
  }

-- ---- the calls

module _ (laws : Laws) (bytes : List ℕ) (image : Image) (s : State) (labels later : List Label) (accepted : IsAccepted bytes image)
    (all : AllStand image s labels)
    (t : Numbered) (listed : Contains (numbered_threads image) t) (own : ThreadState) (point : ℕ) (state : PointState) (left : AfterCall)
    (at : CallsAt image t s labels own point state left) (counts : IsCounted image t labels later left.is_wait) where
  abbrev tcb : ℕ
  tcb = tcb_of image t

  -- nobody else moves: it is enough to know where this thread is
  module _ (after : State) (sound : IsSound after) (store : SameGround image s after) where
    pub it-moves : OthersRest s after (λ y. y == tcb_of image t) → ThreadInvariant image t after later × WaitsAsAsked image t after → AllStand image after later
    it-moves rest stands =
        all-stand laws.stand_on bytes image s after labels later (λ y. y == tcb) accepted all sound store rest
        (λ u member is.
        let same : t ≡ u = laws.own_blocks bytes image t u accepted listed member (sym (eqb-true (tcb_of image u) tcb is)) in
        subst (λ (v : Numbered). ThreadInvariant image v after later × WaitsAsAsked image v after) same stands)
        (λ offset thread is there. own-control laws bytes image s labels later accepted all t listed own point state left at offset (eqb-true offset tcb is))
        (λ u member rests. counts.others (tcb_of image u) (eqb-false (tcb_of image u) tcb rests))

    -- no queue changes, and it passes
    pub it-passes : left.slots ≡ state.slots → PassesWith after (tcb_of image t) own state left
        → ((y : ℕ) → y ≢ tcb_of image t → after.objects y ≡ s.objects y) → AllStand image after later
    it-passes slots passes others =
        it-moves
        (rest-by-threads s after (λ y. y == tcb) (record {
          others = λ y rests. others y (eqb-false y tcb rests);
          moved = λ y is. (passes.next, ap after.objects (eqb-true y tcb is) ∙ passes.is);
        }))
        (own-passes laws bytes image s labels later accepted all t listed own point state left at after sound store slots passes counts)

    -- it passes as it is
    as-it-is : left ≡ changes_nothing state false → (next : ThreadState) → after.objects (tcb_of image t) ≡ Some (ThreadObject next)
        → next.status ≡ own.status → next.registers ≡ advanced own.registers → ((y : ℕ) → y ≢ tcb_of image t → after.objects y ≡ s.objects y) →
        AllStand image after later
    as-it-is left_is next is status registers others =
        it-passes (ap (λ (l : AfterCall). l.slots) left_is)
        (subst (λ (l : AfterCall). PassesWith after tcb own state l) (sym left_is) (record {
          next = next;
          is = is;
          runs = status ∙ at.status;
          written = own.registers;
          registers = registers;
          pc = refl;
          only = λ k inside none. refl;
          within = at.stands.registers;
        }))
        others

  pub passes-stand : left ≡ changes_nothing state false → IsSound (passes s (tcb_of image t)) → AllStand image (passes s (tcb_of image t)) later
  passes-stand left_is sound =
      as-it-is (passes s tcb) sound (record { memory_bits = refl; boot_radix = refl; slots = λ slot. refl; bytes = λ frame place code low high. refl }) left_is
      (record own { registers = advanced own.registers }) (went-here s tcb own at.there) refl refl (went-there s tcb)

  pub yields-stand : left ≡ changes_nothing state false → IsSound (yielded (passes s (tcb_of image t)) (tcb_of image t))
      → AllStand image (yielded (passes s (tcb_of image t)) (tcb_of image t)) later
  yields-stand left_is sound =
      let one : ThreadState = record own { registers = advanced own.registers } in
      as-it-is (yielded (passes s tcb) tcb) sound
      (record { memory_bits = refl; boot_radix = refl; slots = λ slot. refl; bytes = λ frame place code low high. refl }) left_is
      (record one { slice = full_slice }) (yields-here (passes s tcb) tcb one (went-here s tcb own at.there)) refl refl
      (λ y other. yields-there (passes s tcb) tcb y other ∙ went-there s tcb y other)

  -- it passes with other registers, which fit after its call
  pub with-registers : (r : RegisterFile → RegisterFile) → left.slots ≡ state.slots
      → PassesWith (passes_with s (tcb_of image t) (r (registers_of s (tcb_of image t)))) (tcb_of image t) own state left
      → IsSound (passes_with s (tcb_of image t) (r (registers_of s (tcb_of image t)))) →
      AllStand image (passes_with s (tcb_of image t) (r (registers_of s (tcb_of image t)))) later
  with-registers r slots passes sound =
      it-passes (passes_with s tcb (r (registers_of s tcb))) sound
      (record { memory_bits = refl; boot_radix = refl; slots = λ slot. refl; bytes = λ frame place code low high. refl }) slots passes
      (passed-there s tcb (r (registers_of s tcb)))

  pub result-stands : left ≡ known_behind state (with_answer state.ranges) false (a0 ∷ a1 ∷ [])
      → IsSound (passes_with s (tcb_of image t) (write (write (registers_of s (tcb_of image t)) a0 0) a1 (info_word 0 0)))
      → AllStand image (passes_with s (tcb_of image t) (write (write (registers_of s (tcb_of image t)) a0 0) a1 (info_word 0 0))) later
  result-stands left_is sound =
      let written : RegisterFile = write (write own.registers a0 0) a1 0 in
      let fit = laws.result own.registers state.ranges (own-registers laws bytes image s labels later accepted all t listed own point state left at) in
      with-registers (λ r. write (write r a0 0) a1 0) (ap (λ (l : AfterCall). l.slots) left_is)
      (subst (λ (l : AfterCall). PassesWith (passes_with s tcb (write (write (registers_of s tcb) a0 0) a1 0)) tcb own state l) (sym left_is) (record {
        next = record own { registers = advanced written };
        is = passed s tcb (write (write (registers_of s tcb) a0 0) a1 0)
            ∙ ap (λ (u : ThreadState). Some (ThreadObject (record u { registers = advanced (write (write u.registers a0 0) a1 0) })))
            (at-place s tcb own at.there);
        runs = at.status;
        written = written;
        registers = refl;
        pc = refl;
        only = fit.1;
        within = fit.0;
      })) sound
