-- Over all events whoever waits for an answer of an endpoint that answers is owed it.
use Rattle.std.proofs.Common.{ℕ, ◌≡◌, ◌≢◌, ◌∙◌, ◌⊎◌, ◌++◌, inl, inr, Option, Some, None, All, List, [], ◌∷◌, refl, sym, ap, subst}
use Rattle.std.specs.Prelude.{Contains}
use Rattle.std.proofs.lemmas.Bool.Decides.{eqb_tells}
use Rattle.model.specs.declared.events.Event.{Event}
use Rattle.model.specs.declared.events.Event.TheVariants.{Step, Tick, Irq, Write, Read}
use Rattle.model.specs.declared.labels.Label.{Label}
use Rattle.model.specs.Acceptance.Accepted.{IsAccepted}
use Rattle.model.specs.Acceptance.Authority.{StaysWithin}
use Rattle.model.specs.Acceptance.Devices.{KeepsDevices}
use Rattle.model.specs.Acceptance.ThreadInvariants.{tcb_of}
use Rattle.model.specs.Images.Described.{Numbered, described, numbered_threads}
use Rattle.model.specs.Images.Image.{Image}
use Rattle.model.specs.Kernel.Interrupts.{raise}
use Rattle.model.specs.Kernel.Scheduling.{current, tick}
use Rattle.model.specs.Kernel.Soundness.{IsSound}
use Rattle.model.specs.Kernel.State.{AwaitsReply, Object, Runnable, State, ThreadObject, ThreadState, thread_at}
use Rattle.model.specs.Machine.ProgramMemory.{RegisterFile}
use Rattle.model.specs.Kernel.Steps.{place_of, state_after, step, trace}
use Rattle.soundness.proofs.Laws.{written-beside}
use Rattle.soundness.specs.Machines.{SameBesideBytes}
use Rattle.headline.proofs.Laws.{IsGiven, state-next}
use Rattle.headline.specs.authority.Events.{WithinInterrupt, WithinTick}
use Rattle.headline.specs.facts.Standing.{AllStand}
use Rattle.headline.specs.invocations.Laws.{AnyStepGoesWell, Laws}
use Rattle.headline.specs.steps.Laws.{DecodedFieldsLieInTheirRanges, InstructionsTakeEdges, MappedAccessesDoNotFault}
use Rattle.response.specs.Owed.{WaitsWhereAsked}
use Rattle.response.proofs.Laws.{SameWork, holds-after, running-thread, there-is, thread-left, thread-of, tick-same}
use Rattle.settled_threads.specs.Answering.{CallsThere, IsAnswered, IsOwed}
use Rattle.settled_threads.proofs.Holders.{interrupted-owes, still-owes}
use Rattle.settled_threads.proofs.OwedSteps.{calls-same, not-answered, step-owed}
use Rattle.settled_threads.proofs.Rights.{caller-of}

-- a tick leaves the rights to reply, and all registers
module _ (s after : State) (w : WithinTick s after)
    (running : (thread : ℕ) → current s ≡ Some thread → (own : ThreadState) × (s.objects thread ≡ Some (ThreadObject own))) (x : ℕ) where
  by-current : (A : Type 0) (field : ThreadState → A) → ((u : ThreadState) (slice : ℕ) → field (record u { slice = slice }) ≡ field u) → (o : Option ℕ)
      → current s ≡ o → field (thread-of (after.objects x)) ≡ field (thread-of (s.objects x))
  by-current A field same None none =
      ap (λ (o : Option Object). field (thread-of o)) (w.others x (λ some. absurd (let clash : ◌≡◌ {A = Option ℕ} None (Some x) = sym none ∙ some in cc)))
  by-current A field same (Some y) some = elim (eqb_tells y x) [
    | inl here ↦ (
        let now = some ∙ ap (λ (n : ℕ). Some n) here.1 in
        let own = running x now in
        let run = w.runs x own.0 now own.1 in
        ap (λ (o : Option Object). field (thread-of o)) run.1 ∙ same own.0 run.0 ∙ sym (ap (λ (o : Option Object). field (thread-of o)) own.1))
    | inr there ↦
        ap (λ (o : Option Object). field (thread-of o))
        (w.others x (λ other. there.1 (let both : ◌≡◌ {A = Option ℕ} (Some y) (Some x) = sym some ∙ other in cc)))
  ]

  tick-rights : caller-of (after.objects x) ≡ caller-of (s.objects x)
  tick-rights = by-current (Option ℕ) (λ (u : ThreadState). u.caller) (λ u slice. refl) (current s) refl

  tick-registers : (thread_at after x).registers ≡ (thread_at s x).registers
  tick-registers = by-current RegisterFile (λ (u : ThreadState). u.registers) (λ u slice. refl) (current s) refl

module _ (takes : InstructionsTakeEdges) (reaches : MappedAccessesDoNotFault) (decodes : DecodedFieldsLieInTheirRanges) (laws : Laws)
    (steps : AnyStepGoesWell) (told : (x y : ThreadState) → (x ≡ y) ⊎ (x ≢ y)) (bytes : List ℕ) (image : Image)
    (accepted : IsAccepted bytes image) (endpoint badge : ℕ) (a : IsAnswered image endpoint badge)
    (facts : (u : Numbered) → Contains (numbered_threads image) u → IsGiven image u)
    (ticks : (s : State) → IsSound s → WithinTick s (tick s))
    (interrupts : (s : State) → IsSound s → (line : ℕ) → WithinInterrupt line s (raise s line))
    (stand : (events : List Event) → All (KeepsDevices image) events → AllStand image (state_after (described image) events) (trace (described image) events))
    (stay : (before : List Event) (event : Event) → All (KeepsDevices image) before
    → StaysWithin image (state_after (described image) before) event (step (state_after (described image) before) event).0)
    (asked_so : (before : List Event) → All (KeepsDevices image) before → (u : Numbered) → Contains (numbered_threads image) u
    → WaitsWhereAsked image u (state_after (described image) before))
    (start_runs : (u : Numbered) → Contains (numbered_threads image) u → (thread_at (described image) (tcb_of image u)).status ≡ Runnable) where
  abbrev AllOwed : State → Type 0
  AllOwed x =
      (c : Numbered) → Contains (numbered_threads image) c → (thread_at x (tcb_of image c)).status ≡ AwaitsReply → CallsThere image x c endpoint badge
      → IsOwed image endpoint badge a c x

  -- where each thread is as it was, with its right
  kept-owed : (s after : State) → ((x : ℕ) → caller-of (after.objects x) ≡ caller-of (s.objects x))
      → ((x : ℕ) → (thread_at after x).status ≡ (thread_at s x).status)
      → ((x : ℕ) → (thread_at after x).registers ≡ (thread_at s x).registers) → AllOwed s → AllOwed after
  kept-owed s after rights statuses registers owed c among awaits calls =
      let debt = owed c among (sym (statuses (tcb_of image c)) ∙ awaits)
      (calls-same image c s after endpoint badge (ap (λ (r : RegisterFile). r.pc) (registers (tcb_of image c))) calls) in
      record {
        server = debt.server;
        listed = debt.listed;
        receives = debt.receives;
        owes = still-owes image endpoint badge a s after debt.server (tcb_of image c) (rights (tcb_of image debt.server))
            (statuses (tcb_of image debt.server)) (registers (tcb_of image debt.server)) debt.owes;
      }

  module _ (before : List Event) (kept : All (KeepsDevices image) before) where
    abbrev s : State
    s = state_after (described image) before

    abbrev labels : List Label
    labels = trace (described image) before

    all : AllStand image s labels
    all = stand before kept

    -- an interrupt leaves who waits for an answer as it was
    module _ (line : ℕ) (after : State) (later : List Label) (behind : AllStand image after later) (w : WithinInterrupt line s after) (owed : AllOwed s)
        (c : Numbered) (among : Contains (numbered_threads image) c) (awaits : (thread_at after (tcb_of image c)).status ≡ AwaitsReply)
        (calls : CallsThere image after c endpoint badge) where
      module _ (was now : ThreadState) (there : s.objects (tcb_of image c) ≡ Some (ThreadObject was))
          (then_ : after.objects (tcb_of image c) ≡ Some (ThreadObject now)) where
        same-owed : was ≡ now → IsOwed image endpoint badge a c after
        same-owed same =
            let alike : thread_at after (tcb_of image c) ≡ thread_at s (tcb_of image c) = ap thread-of then_ ∙ sym same ∙ sym (ap thread-of there) in
            let debt = owed c among (ap (λ (u : ThreadState). u.status) (sym alike) ∙ awaits)
            (calls-same image c s after endpoint badge (ap (λ (u : ThreadState). u.registers.pc) alike) calls) in
            record {
              server = debt.server;
              listed = debt.listed;
              receives = debt.receives;
              owes = interrupted-owes laws.below bytes image accepted endpoint badge a s labels all debt.server debt.listed debt.receives (tcb_of image c)
                  debt.owes after line w told later behind;
            }

        differs-owed : was ≢ now → IsOwed image endpoint badge a c after
        differs-owed differs =
            absurd (thread-left image s after labels all line w c among
            (λ runs. not-answered (thread_at after (tcb_of image c)).status runs awaits)
            (λ same. differs (let both : Some (ThreadObject was) ≡ Some (ThreadObject now) = sym there ∙ same ∙ then_ in
            let inside : ThreadObject was ≡ ThreadObject now = cc in cc)))

        either-owed : IsOwed image endpoint badge a c after
        either-owed = elim (told was now) [ inl same ↦ same-owed same | inr differs ↦ differs-owed differs ]

      interrupted : IsOwed image endpoint badge a c after
      interrupted =
          let was = there-is image c s labels (all.stand c among) in
          let is = there-is image c after later (behind.stand c among) in
          either-owed was.0 is.0 was.1 is.1

    by-event : (event : Event) → All (KeepsDevices image) (before ++ event ∷ []) → StaysWithin image s event (step s event).0 → AllOwed s
        → AllOwed (step s event).0
    by-event Step next_kept at owed =
        step-owed takes reaches decodes laws steps told bytes image accepted endpoint badge a facts s labels all at (asked_so before kept) owed
    by-event Tick next_kept at owed =
        let w = subst (WithinTick s) (sym at) (ticks s all.sound) in
        let running = λ (thread : ℕ) (now : current s ≡ Some thread). running-thread s all.sound thread now in
        let same = tick-same s (step s Tick).0 w running image labels in
        kept-owed s (step s Tick).0 (tick-rights s (step s Tick).0 w running) (SameWork.status same) (tick-registers s (step s Tick).0 w running) owed
    by-event (Irq line) next_kept at owed = λ c among awaits calls.
        interrupted line (step s (Irq line)).0 (trace (described image) (before ++ Irq line ∷ []))
        (subst (λ (x : State). AllStand image x (trace (described image) (before ++ Irq line ∷ []))) (state-next (described image) before (Irq line))
        (stand (before ++ Irq line ∷ []) next_kept))
        (subst (WithinInterrupt line s) (sym at) (interrupts s all.sound line)) owed c among awaits calls
    by-event (Write address word) next_kept at owed =
        let same : SameBesideBytes s (step s (Write address word)).0 = subst (SameBesideBytes s) (sym at) (written-beside s (place_of address) word) in
        kept-owed s (step s (Write address word)).0 (λ x. ap (λ (f : ℕ → Option Object). caller-of (f x)) same.objects)
        (λ x. ap (λ (f : ℕ → Option Object). (thread-of (f x)).status) same.objects)
        (λ x. ap (λ (f : ℕ → Option Object). (thread-of (f x)).registers) same.objects) owed
    by-event (Read address) next_kept at owed = subst AllOwed (sym at) owed

  pub owed-after : (events : List Event) → All (KeepsDevices image) events → (c : Numbered) → Contains (numbered_threads image) c
      → (thread_at (state_after (described image) events) (tcb_of image c)).status ≡ AwaitsReply
      → CallsThere image (state_after (described image) events) c endpoint badge → IsOwed image endpoint badge a c (state_after (described image) events)
  unfolding state_after
  owed-after =
      holds-after image AllOwed (λ before event kept next_kept owed. by-event before kept event next_kept (stay before event kept) owed)
      (λ c among awaits calls. not-answered (thread_at (described image) (tcb_of image c)).status (start_runs c among) awaits)
