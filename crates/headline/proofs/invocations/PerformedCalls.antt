-- Each invocation that the rules allow has no error, and the threads' invariant holds after it and its answer.
use Rattle.std.proofs.Common.{ℕ, ◌≡◌, ◌∙◌, ◌+◌, ◌++◌, true, false, if◌then◌else◌, Result, Ok, List, [], ◌∷◌, refl, sym, ap, subst}
use Rattle.std.specs.Prelude.{Contains}
use Rattle.headline.specs.facts.Standing.{AllStand}
use Rattle.model.specs.declared.errors.KError.{KError}
use Rattle.model.specs.declared.instructions.Register.{Register}
use Rattle.model.specs.declared.invocations.CNodeCall.TheVariants.{Copy, Mint, Move, Mutate, Delete, Revoke}
use Rattle.model.specs.declared.invocations.FrameCall.TheVariants.{MapFrame, UnmapFrame}
use Rattle.model.specs.declared.invocations.HandlerCall.TheVariants.{Acknowledge, SetNotification, Clear}
use Rattle.model.specs.declared.invocations.Invocation.{Invocation}
use Rattle.model.specs.declared.invocations.Invocation.TheVariants.{OnUntyped, OnThread, OnCNode, OnFrame, OnTable, OnControl, OnHandler}
use Rattle.model.specs.declared.labels.Label.{Label}
use Rattle.model.specs.declared.labels.Label.TheVariants.{Ran}
use Rattle.model.specs.declared.labels.Outcome.TheVariants.{Completed}
use Rattle.model.specs.declared.ranges.Range.{Range}
use Rattle.model.specs.Acceptance.Accepted.{IsAccepted}
use Rattle.model.specs.Acceptance.CallRules.{AfterCall, answers, changes_nothing, known_behind, with_answer}
use Rattle.model.specs.Acceptance.NotedKernel.{noted_after, noted_kernel}
use Rattle.model.specs.Acceptance.NotedStates.{NotedSlot, PointState}
use Rattle.model.specs.Acceptance.ThreadInvariants.{tcb_of}
use Rattle.model.specs.Capabilities.Slots.{capability_at}
use Rattle.model.specs.Images.Described.{Numbered, numbered_threads}
use Rattle.model.specs.Images.Image.{Image}
use Rattle.model.specs.Kernel.Interrupts.{acknowledge}
use Rattle.model.specs.Kernel.Invocations.{perform}
use Rattle.model.specs.Kernel.Messages.{a0, a1}
use Rattle.model.specs.Kernel.Soundness.{IsSound}
use Rattle.model.specs.Kernel.State.{State, Runnable, ThreadState}
use Rattle.model.specs.Kernel.Steps.{completed, memory_base}
use Rattle.model.specs.declared.system_calls.SendCall.{SendCall}
use Rattle.model.specs.declared.system_calls.SendCall.TheVariants.{Calling, Sending, Trying}
use Rattle.soundness.proofs.Laws.{acknowledge-machine}
use Rattle.headline.specs.moves.Moving.{CallsAt}
use Rattle.headline.proofs.moves.Laws.{one-thread}
use Rattle.headline.specs.invocations.Changes.{ChangesOwn}
use Rattle.headline.specs.invocations.Laws.{Laws}
use Rattle.headline.specs.invocations.Mirrors.{Mirrors}
use Rattle.headline.specs.invocations.Performed.{InvokesWell, MayInvoke}
use Rattle.headline.specs.invocations.Running.{Runs}
use Rattle.headline.proofs.invocations.Acknowledged.{acknowledge-leaves}
use Rattle.headline.proofs.invocations.AnsweredCalls.{completed-stands}
use Rattle.headline.proofs.invocations.RuledCalls.{left_by}
use Rattle.typestate.specs.Calls.{call_on}

-- the call has no error, and the threads' invariant holds after it
pub record StandsBehind (image : Image) (t : Numbered) (s : State) (labels : List Label) (pc slot : ℕ) (kind : SendCall) (c : Invocation) : Type 0 where
  pub after : State
  pub performs : perform s (call_on image t.thread slot (capability_at s.slots slot)) c ≡ Ok after
  pub stands : IsSound (completed after (tcb_of image t) kind)
      → AllStand image (completed after (tcb_of image t) kind) (labels ++ Ran (memory_base + tcb_of image t) pc Completed ∷ [])

abbrev left_with : List Range → List NotedSlot → List Register → AfterCall
left_with ranges slots written = record { ranges = ranges; slots = slots; is_wait = false; written = written }

-- what the rules say is left, where the slots stay
left-unchanged : (image : Image) (t : Numbered) (state : PointState) (kind : SendCall) (noted : State) → noted_after image t.thread noted.slots ≡ state.slots
    → left_by image t.thread state (answers kind) noted
    ≡ (if answers kind then known_behind state (with_answer state.ranges) false (a0 ∷ a1 ∷ []) else changes_nothing state false)
left-unchanged image t state Calling noted same = ap (λ (slots : List NotedSlot). left_with (with_answer state.ranges) slots (a0 ∷ a1 ∷ [])) same
left-unchanged image t state Sending noted same = ap (λ (slots : List NotedSlot). left_with state.ranges slots []) same
left-unchanged image t state Trying noted same = ap (λ (slots : List NotedSlot). left_with state.ranges slots []) same

refused : {A : Type 0} → false ≡ true → A
refused clash = absurd cc

module _ (laws : Laws) (bytes : List ℕ) (image : Image) (s : State) (labels : List Label) (accepted : IsAccepted bytes image) (all : AllStand image s labels)
    (t : Numbered) (listed : Contains (numbered_threads image) t) (own : ThreadState) (point : ℕ) (state : PointState) (left : AfterCall)
    (at : CallsAt image t s labels own point state left) (kind : SendCall) (slot : ℕ) where
  mirrors : Mirrors image t s state.slots
  mirrors = laws.mirror bytes image t s labels own point state accepted listed all at.stands

  runs : Runs image t s
  runs other there =
      let same : own ≡ other = one-thread (s.objects (tcb_of image t)) own other at.there there in
      subst (λ (u : ThreadState). u.status ≡ Runnable) same at.status

  abbrev Behind : Invocation → Type 0
  Behind c = StandsBehind image t s labels own.registers.pc slot kind c

  by-changes : (c : Invocation) (m : MayInvoke image t s state.slots slot c) → left ≡ left_by image t.thread state (answers kind) m.noted
      → InvokesWell image t s slot c m.noted → Behind c
  by-changes c m left_is well = record {
    after = well.after;
    performs = well.performs;
    stands = laws.behind bytes image t s labels own point state left kind well.after accepted all listed at mirrors
        (subst (ChangesOwn image t s well.after) (sym (ap (λ (l : AfterCall). l.slots) left_is)) well.changes)
        (laws.derive image t s state.slots slot c mirrors m well)
        (record {
          is_wait = ap (λ (l : AfterCall). l.is_wait) left_is;
          ranges = ap (λ (l : AfterCall). l.ranges) left_is;
          written = ap (λ (l : AfterCall). l.written) left_is;
        });
  }

  -- the noted slots stay
  by-acknowledging : (line : ℕ) (m : MayInvoke image t s state.slots slot (OnHandler line Acknowledge))
      → left ≡ left_by image t.thread state (answers kind) m.noted
      → Behind (OnHandler line Acknowledge)
  by-acknowledging line m left_is =
      let kernel = noted_kernel image t.thread state.slots in
      let same : acknowledge kernel line ≡ m.noted = (let e : ◌≡◌ {A = Result State KError} (Ok (acknowledge kernel line)) (Ok m.noted) = m.performs in cc) in
      let slots : m.noted.slots ≡ kernel.slots = ap (λ (k : State). k.slots) (sym same) ∙ (acknowledge-machine kernel line).slots in
      let behind = acknowledge-leaves laws.below bytes image s labels accepted all t listed own point state left at line (laws.acknowledges s line all.sound) in
      record {
        after = acknowledge s line;
        performs = refl;
        stands = completed-stands laws.below bytes image (acknowledge s line) labels accepted behind.all t listed own point state left behind.at
            own.registers.pc kind
            (left_is ∙ left-unchanged image t state kind m.noted (ap (noted_after image t.thread) slots ∙ mirrors.back));
      }

  pub stands-behind : (c : Invocation) (m : MayInvoke image t s state.slots slot c) → left ≡ left_by image t.thread state (answers kind) m.noted
      → StandsBehind image t s labels own.registers.pc slot kind c
  stands-behind (OnUntyped memory retyped) m left_is =
      by-changes (OnUntyped memory retyped) m left_is (laws.retypes image t s state.slots slot memory retyped mirrors m)
  stands-behind (OnCNode (Copy destination source rights_word)) m left_is =
      by-changes (OnCNode (Copy destination source rights_word)) m left_is (laws.copies image t s state.slots slot destination source rights_word mirrors m)
  stands-behind (OnCNode (Mint destination source rights_word payload)) m left_is =
      by-changes (OnCNode (Mint destination source rights_word payload)) m left_is
      (laws.mints image t s state.slots slot destination source rights_word payload mirrors m)
  stands-behind (OnCNode (Move destination source)) m left_is =
      by-changes (OnCNode (Move destination source)) m left_is (laws.moves image t s state.slots slot destination source mirrors m)
  stands-behind (OnCNode (Delete name)) m left_is = by-changes (OnCNode (Delete name)) m left_is (laws.deletes image t s state.slots slot name mirrors runs m)
  stands-behind (OnCNode (Revoke name)) m left_is = by-changes (OnCNode (Revoke name)) m left_is (laws.revokes image t s state.slots slot name mirrors runs m)
  stands-behind (OnFrame held (MapFrame root_name address rights_word)) m left_is =
      by-changes (OnFrame held (MapFrame root_name address rights_word)) m left_is
      (laws.maps image t s state.slots slot held root_name address rights_word mirrors m)
  stands-behind (OnFrame held UnmapFrame) m left_is = by-changes (OnFrame held UnmapFrame) m left_is (laws.unmaps image t s state.slots slot held mirrors m)
  stands-behind (OnHandler line Acknowledge) m left_is = by-acknowledging line m left_is
  stands-behind (OnThread thread c) m left_is = refused m.may
  stands-behind (OnCNode (Mutate destination source payload)) m left_is = refused m.may
  stands-behind (OnTable c) m left_is = refused m.may
  stands-behind (OnControl line destination) m left_is = refused m.may
  stands-behind (OnHandler line (SetNotification name)) m left_is = refused m.may
  stands-behind (OnHandler line Clear) m left_is = refused m.may
