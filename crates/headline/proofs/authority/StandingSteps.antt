-- Each step stays within authority, where all threads of an accepted image stand, what they map is under their own root tables, and the
-- objects that their slots name last by the boot CNode or lie inside untyped memory of their own.
use Rattle.std.proofs.Common.{ℕ, ◌≡◌, ◌∙◌, Bool, true, false, is_some, if◌then◌else◌, Some, None, Result, Ok, List, inl, inr, refl, sym, ap, subst}
use Rattle.std.specs.Prelude.{Contains}
use Rattle.soundness.specs.Machines.{SameBase}
use Rattle.soundness.proofs.Laws.{acknowledge-machine, answered-machine, passes-machine}
use Rattle.typestate.specs.Calls.{call_on}
use Rattle.headline.specs.authority.HeldInside.{AllHoldInside, AllPoolsStay}
use Rattle.headline.specs.authority.OwnMaps.{AllMapOwn}
use Rattle.headline.specs.facts.Standing.{AllStand}
use Rattle.headline.specs.invocations.Changes.{IsOther}
use Rattle.headline.specs.invocations.Invoking.{Invokes}
use Rattle.headline.specs.invocations.Laws.{Laws}
use Rattle.headline.specs.invocations.Mirrors.{Mirrors}
use Rattle.headline.specs.invocations.Performed.{InvokesWell, MayInvoke}
use Rattle.headline.specs.invocations.Running.{Runs}
use Rattle.headline.specs.kept.Laws.{StoresTouchNone}
use Rattle.headline.specs.moves.Moving.{CallsAt}
use Rattle.headline.specs.moves.Steps.{InvokesNothing, MakesCall}
use Rattle.headline.specs.steps.Laws.{PlainStepsKeepThreads, WritesWhereStoresMay}
use Rattle.headline.specs.steps.Points.{ReachesNoCall}
use Rattle.model.specs.declared.errors.KError.{KError}
use Rattle.model.specs.declared.events.Event.TheVariants.{Step}
use Rattle.model.specs.declared.invocations.CNodeCall.TheVariants.{Copy, Mint, Move, Mutate, Delete, Revoke}
use Rattle.model.specs.declared.invocations.FrameCall.TheVariants.{MapFrame, UnmapFrame}
use Rattle.model.specs.declared.invocations.HandlerCall.TheVariants.{Acknowledge, SetNotification, Clear}
use Rattle.model.specs.declared.invocations.Invocation.{Invocation}
use Rattle.model.specs.declared.invocations.Invocation.TheVariants.{OnUntyped, OnThread, OnCNode, OnFrame, OnTable, OnControl, OnHandler}
use Rattle.model.specs.declared.labels.Label.{Label}
use Rattle.model.specs.declared.system_calls.SendCall.{SendCall}
use Rattle.model.specs.declared.system_calls.SystemCall.TheVariants.{Sends}
use Rattle.model.specs.Machine.ProgramMemory.{read}
use Rattle.model.specs.Acceptance.Accepted.{IsAccepted}
use Rattle.model.specs.Acceptance.Authority.{StaysWithin, WithinAuthority}
use Rattle.model.specs.Acceptance.CallRules.{AfterCall}
use Rattle.model.specs.Acceptance.NotedStates.{PointState}
use Rattle.model.specs.Acceptance.ThreadInvariants.{tcb_of}
use Rattle.model.specs.Capabilities.Slots.{capability_at}
use Rattle.model.specs.Images.Described.{Numbered, numbered_threads}
use Rattle.model.specs.Images.Image.{Image}
use Rattle.model.specs.Kernel.AddressSpaces.{content_of, with_content}
use Rattle.model.specs.Kernel.Interrupts.{acknowledge}
use Rattle.model.specs.Kernel.Invocations.{perform}
use Rattle.model.specs.Kernel.Messages.{a7, passes, with_registers}
use Rattle.model.specs.Kernel.Scheduling.{current, is_runnable}
use Rattle.model.specs.Kernel.State.{State, Runnable, ThreadObject, ThreadState, as_thread, thread_at}
use Rattle.model.specs.Kernel.Steps.{answered, call_of, completed, named_slot, registers_of, step, system_call}
use Rattle.model.specs.Machine.Effects.{effect}
use Rattle.headline.proofs.invocations.AllRuns.{either-invokes}
use Rattle.headline.proofs.invocations.InvocationSteps.{invocation-leaves}
use Rattle.headline.proofs.moves.Laws.{call-leaves, idle-is, one-event, one-thread, plain-leaves, step-cases}
use Rattle.headline.proofs.authority.Acknowledging.{acknowledge-changes}
use Rattle.headline.proofs.authority.CallsMade.{completed-within, runs-apart}
use Rattle.headline.proofs.authority.Changes.{changes-within}
use Rattle.headline.proofs.authority.InsideKept.{inside-kept}
use Rattle.headline.proofs.authority.OwnSteps.{own-step}
use Rattle.headline.proofs.authority.PlainStanding.{plain-stands}
use Rattle.headline.proofs.authority.PoolsKept.{PoolsIn, base-inside, base-pools, copies-keep, maps-keep, mints-keep, moves-keep, pools-stay, unmaps-keep}
use Rattle.headline.proofs.authority.QuietCalls.{quiet-same}
use Rattle.headline.proofs.authority.StandingCalls.{stands-within}
use Rattle.headline.proofs.authority.StandingDeletes.{deletes-keep, deletes-within, revokes-keep, revokes-within}
use Rattle.headline.proofs.authority.StandingInvocations.{copies-within, maps-within, mints-within, moves-within, unmaps-within}
use Rattle.headline.proofs.authority.StandingRetypes.{retypes-keep, retypes-within}

refused : {A : Type 0} → false ≡ true → A
refused clash = absurd cc

module _ (laws : Laws) (bytes : List ℕ) (image : Image) (s : State) (labels : List Label) (accepted : IsAccepted bytes image) (all : AllStand image s labels)
    (maps : AllMapOwn image s) (inside : AllHoldInside image s) (t : Numbered) (listed : Contains (numbered_threads image) t) where
  abbrev tcb : ℕ
  tcb = tcb_of image t

  -- within authority, with each thread's untyped memory, and the thread is still there
  record IsLeft (after : State) : Type 0 where
    pub within : WithinAuthority image t.thread s after
    pub pools : AllPoolsStay image s after
    pub now : ThreadState
    pub there : after.objects tcb ≡ Some (ThreadObject now)

  -- ---- an invocation that the rules allow

  module _ (own : ThreadState) (point : ℕ) (state : PointState) (left : AfterCall) (at : CallsAt image t s labels own point state left) (slot : ℕ)
      (called : named_slot s (tcb_of image t) ≡ Ok slot) (sent : SendCall)
      (number : call_of (read (registers_of s (tcb_of image t)) a7) ≡ Some (Sends sent)) where
    mirrors : Mirrors image t s state.slots
    mirrors = laws.mirror bytes image t s labels own point state accepted listed all at.stands

    runs : Runs image t s
    runs other there = subst (λ (u : ThreadState). u.status ≡ Runnable) (one-thread (s.objects tcb) own other at.there there) at.status

    abbrev Performs : Invocation → State → Type 0
    Performs c after = perform s (call_on image t.thread slot (capability_at s.slots slot)) c ≡ Ok after

    by-changes : (c : Invocation) (m : MayInvoke image t s state.slots slot c) (after : State) → InvokesWell image t s slot c m.noted → Performs c after
        → WithinAuthority image t.thread s after → PoolsIn image t s.slots after.slots → IsLeft after
    by-changes c m after well made within keeps =
        let same : well.after ≡ after = (let e : ◌≡◌ {A = Result State KError} (Ok well.after) (Ok after) = sym well.performs ∙ made in cc) in
        record {
          within = within;
          pools = pools-stay image t s after (subst (λ (x : State). (y : ℕ) → IsOther image t y → x.slots y ≡ s.slots y) same well.changes.others) keeps;
          now = own;
          there = subst (λ (x : State). x.objects tcb ≡ Some (ThreadObject own)) same (well.changes.threads tcb own at.there);
        }

    left-within : (c : Invocation) → MayInvoke image t s state.slots slot c → (after : State) → Performs c after → IsLeft after
    left-within (OnUntyped memory asked) m after made =
        by-changes (OnUntyped memory asked) m after (laws.retypes image t s state.slots slot memory asked mirrors m) made
        (retypes-within image t s state.slots mirrors own at.there slot memory asked m called after made)
        (retypes-keep image t s state.slots mirrors own at.there slot memory asked m called after made)
    left-within (OnCNode (Copy destination source word)) m after made =
        by-changes (OnCNode (Copy destination source word)) m after (laws.copies image t s state.slots slot destination source word mirrors m) made
        (copies-within image t s state.slots mirrors own at.there slot destination source word m after made)
        (copies-keep image t s state.slots mirrors slot destination source word after made)
    left-within (OnCNode (Mint destination source word payload)) m after made =
        by-changes (OnCNode (Mint destination source word payload)) m after
        (laws.mints image t s state.slots slot destination source word payload mirrors m) made
        (mints-within image t s state.slots mirrors own at.there slot destination source word payload m after made)
        (mints-keep image t s state.slots mirrors slot destination source word payload after made)
    left-within (OnCNode (Move destination source)) m after made =
        by-changes (OnCNode (Move destination source)) m after (laws.moves image t s state.slots slot destination source mirrors m) made
        (moves-within image t s state.slots mirrors own at.there slot (maps t listed) destination source m after made)
        (moves-keep image t s state.slots mirrors slot destination source m after made)
    left-within (OnCNode (Delete name)) m after made =
        by-changes (OnCNode (Delete name)) m after (laws.deletes image t s state.slots slot name mirrors runs m) made
        (deletes-within image t s state.slots mirrors runs own at.there (maps t listed) slot name m (inside t listed) after made)
        (deletes-keep image t s state.slots mirrors runs own at.there (maps t listed) slot name m (inside t listed) after made)
    left-within (OnCNode (Revoke name)) m after made =
        by-changes (OnCNode (Revoke name)) m after (laws.revokes image t s state.slots slot name mirrors runs m) made
        (revokes-within image t s state.slots mirrors runs own at.there (maps t listed) slot name m (inside t listed) after made)
        (revokes-keep image t s state.slots mirrors runs own at.there (maps t listed) slot name m (inside t listed) after made)
    left-within (OnFrame held (MapFrame name address word)) m after made =
        by-changes (OnFrame held (MapFrame name address word)) m after (laws.maps image t s state.slots slot held name address word mirrors m) made
        (maps-within image t s state.slots mirrors own at.there slot held name address word m after made)
        (maps-keep image t s state.slots mirrors slot held name address word m after made)
    left-within (OnFrame held UnmapFrame) m after made =
        by-changes (OnFrame held UnmapFrame) m after (laws.unmaps image t s state.slots slot held mirrors m) made
        (unmaps-within image t s state.slots mirrors own at.there slot (maps t listed) held m after made)
        (unmaps-keep image t s state.slots mirrors slot held m after made)
    left-within (OnHandler line Acknowledge) m after made =
        let same : acknowledge s line ≡ after = (let e : ◌≡◌ {A = Result State KError} (Ok (acknowledge s line)) (Ok after) = made in cc) in
        let change =
        acknowledge-changes image t.thread s all.sound own at.there at.status line (record {
          call = Sends sent;
          slot = slot;
          asks = number;
          own = m.own;
          named = called;
          such = (refl, m.on);
        }) in
        subst IsLeft same (record {
          within = changes-within image t.thread s (acknowledge s line) change;
          pools = base-pools image s (acknowledge s line) (acknowledge-machine s line);
          now = change.now;
          there = change.is;
        })
    left-within (OnThread thread c) m after made = refused m.may
    left-within (OnCNode (Mutate destination source payload)) m after made = refused m.may
    left-within (OnTable c) m after made = refused m.may
    left-within (OnControl line destination) m after made = refused m.may
    left-within (OnHandler line (SetNotification name)) m after made = refused m.may
    left-within (OnHandler line Clear) m after made = refused m.may

  -- ---- the step that makes it

  -- the thread goes on
  completed-base : (x : State) (kind : SendCall) → SameBase x (completed x tcb kind)
  completed-base x kind = elim (is_some (as_thread (x.objects tcb)))
      as (λ (b : Bool). SameBase x (if b then (if is_runnable (thread_at x tcb).status then answered x tcb kind 0 else passes x tcb) else x)) [
        | true ↦ elim (is_runnable (thread_at x tcb).status) as (λ (b : Bool). SameBase x (if b then answered x tcb kind 0 else passes x tcb)) [
          | true ↦ answered-machine x tcb kind 0
          | false ↦ passes-machine x tcb
        ]
        | false ↦ record { memory_bits = refl; boot_radix = refl; slots = refl }
      ]

  record IsDone (after : State) : Type 0 where
    pub within : WithinAuthority image t.thread s after
    pub pools : AllPoolsStay image s after

  invoked-done : current s ≡ Some (tcb_of image t) → MakesCall s (tcb_of image t) → Invokes s (tcb_of image t) → IsDone (step s Step).0
  invoked-done now makes invokes =
      invocation-leaves laws bytes image s labels accepted all t listed now IsDone
      (λ own point state left at kind slot c called may after made.
      let l = left-within own point state left at slot called invokes.kind invokes.number c may after made in
      let base = base-pools image after (completed after tcb kind) (completed-base after kind) in
      record {
        within = completed-within image t.thread s after (runs-apart image t.thread s all.sound own at.there at.status) l.now l.there l.within kind;
        pools = λ u among first size h. base u among first size (l.pools u among first size h);
      }) makes invokes

-- ---- whatever the step

-- within authority, and the objects that threads' slots name are inside still
pub record StepIsWithin (image : Image) (s after : State) : Type 0 where
  pub within : StaysWithin image s Step after
  pub inside : AllHoldInside image after

module _ (laws : Laws) (keeps : PlainStepsKeepThreads) (writes : WritesWhereStoresMay) (touches : StoresTouchNone) (bytes : List ℕ) (image : Image) (s : State)
    (labels : List Label) (accepted : IsAccepted bytes image) (all : AllStand image s labels) (maps : AllMapOwn image s) (inside : AllHoldInside image s) where
  abbrev last : State
  last = (step s Step).0

  idle-step : current s ≡ None → StepIsWithin image s last
  idle-step none =
      let same : last ≡ s = ap (λ (x : State × Label). x.0) (idle-is s none) in
      record { within = inl (none, same); inside = subst (λ (x : State). AllHoldInside image x) (sym same) inside }

  module _ (t : Numbered) (listed : Contains (numbered_threads image) t) (now : current s ≡ Some (tcb_of image t)) where
    abbrev thread : ℕ
    thread = tcb_of image t

    plain-step : ReachesNoCall s (tcb_of image t) → StepIsWithin image s last
    plain-step free = record {
      within = plain-stands laws.below keeps writes touches bytes image t s labels accepted all listed now free;
      inside = plain-leaves laws.below keeps writes touches bytes image t s labels accepted all listed now free (λ (x : State). AllHoldInside image x)
          (λ own there status word fetched instr spelled.
          let e = effect (registers_of s thread) (content_of s thread) instr in
          base-inside image s (with_content (with_registers s thread e.registers) e.content) (record { memory_bits = refl; boot_radix = refl; slots = refl })
          inside);
    }

    quiet-step : MakesCall s (tcb_of image t) → InvokesNothing s (tcb_of image t) → StepIsWithin image s last
    quiet-step makes quiet = record {
      within = stands-within laws.below bytes image t s labels accepted all listed now makes quiet;
      inside = call-leaves laws.below bytes image t s labels accepted all listed now makes (λ (x : State). AllHoldInside image x)
          (λ own point state left call at is number rule. base-inside image s (system_call s thread).0 (quiet-same s thread quiet) inside);
    }

    invoking-step : MakesCall s (tcb_of image t) → Invokes s (tcb_of image t) → StepIsWithin image s last
    invoking-step makes invokes =
        let done = invoked-done laws bytes image s labels accepted all maps inside t listed now makes invokes in
        record {
          within = inr (own-step image t s last listed now all.sound (one-event laws.below.keeps s Step all.sound) done.within (λ plain. absurd (plain makes)));
          inside = inside-kept bytes image accepted s last all.sound (one-event laws.below.keeps s Step all.sound) inside done.pools t listed done.within;
        }

  pub step-within : StepIsWithin image s (step s Step).0
  step-within = step-cases image s labels all (StepIsWithin image s last) idle-step
      (λ t listed now makes. elim (either-invokes s (tcb_of image t)) [
        | inl nothing ↦ quiet-step t listed now makes nothing
        | inr invokes ↦ invoking-step t listed now makes invokes
      ]) plain-step
