-- A tick moves no thread: it changes the slice of one, and its place in the ready list.
use Rattle.std.proofs.Common.{ℕ, ◌≡◌, ◌≢◌, ◌∙◌, ◌-◌, ◌++◌, inl, inr, true, false, nat_le, if◌then◌else◌, Option, Some, None, List, [], ◌∷◌, refl, sym, ap}
use Rattle.std.specs.Option.{option_map_or}
use Rattle.soundness.proofs.Laws.{current-runs}
use Rattle.headline.specs.facts.Standing.{AllStand}
use Rattle.model.specs.declared.events.Event.{Event}
use Rattle.model.specs.declared.events.Event.TheVariants.{Tick}
use Rattle.model.specs.declared.labels.Label.{Label}
use Rattle.model.specs.declared.labels.Label.TheVariants.{Ticked}
use Rattle.model.specs.Acceptance.Accepted.{IsAccepted}
use Rattle.headline.specs.moves.Ground.{SameGround}
use Rattle.model.specs.Acceptance.ThreadInvariants.{tcb_of}
use Rattle.model.specs.Images.Image.{Image}
use Rattle.model.specs.Kernel.Scheduling.{current, full_slice, tick, ticked, yielded}
use Rattle.model.specs.Kernel.Soundness.{IsSound}
use Rattle.model.specs.Kernel.State.{State, Object, ThreadObject, EndpointObject, NotificationObject, ThreadState, as_thread, new_thread, put, thread_at}
use Rattle.model.specs.Kernel.State.{with_thread}
use Rattle.model.specs.Kernel.Steps.{state_after, step}
use Rattle.soundness.specs.Laws.{EventsKeepSoundness}
use Rattle.headline.specs.kept.Laws.{StandsOn}
use Rattle.headline.specs.moves.Moving.{GoesOnAs, WaitsOn}
use Rattle.headline.specs.moves.Resting.{HasBeen, OthersRest}
use Rattle.headline.proofs.moves.LeftAlone.{one-thread}
use Rattle.headline.proofs.moves.Puts.{decided, other-label, put-here, put-there, thread-no-endpoint, thread-no-notification, thread-there}
use Rattle.headline.proofs.moves.Standing.{all-stand}

-- ---- where nothing changes for any thread

stays-as : (s : State) (thread : ℕ) (old : ThreadState) → s.objects thread ≡ Some (ThreadObject old) → GoesOnAs s thread old
stays-as s thread old there = record { new = old; is = there; registers = refl; status = refl }

-- one thread has another slice
module _ (s after : State) (x slice : ℕ) (own : ThreadState) (there : s.objects x ≡ Some (ThreadObject own))
    (objects : (y : ℕ) → after.objects y ≡ put s.objects x (Some (ThreadObject (record own { slice = slice }))) y) where
  abbrev new : ThreadState
  new = record own { slice = slice }

  here : (y : ℕ) → y ≡ x → after.objects y ≡ Some (ThreadObject new)
  here y is = objects y ∙ put-here s.objects x (Some (ThreadObject new)) y is

  elsewhere : (y : ℕ) → y ≢ x → after.objects y ≡ s.objects y
  elsewhere y other = objects y ∙ put-there s.objects x (Some (ThreadObject new)) y other

  goes-sliced : (thread : ℕ) (old : ThreadState) → s.objects thread ≡ Some (ThreadObject old) → GoesOnAs after thread old
  goes-sliced thread old was = elim (decided thread x) [
    | inl is ↦
        let same : own ≡ old = one-thread (s.objects thread) own old (ap s.objects is ∙ there) was in
        record { new = new; is = here thread is; registers = ap (λ (u : ThreadState). u.registers) same; status = ap (λ (u : ThreadState). u.status) same }
    | inr other ↦ record { new = old; is = elsewhere thread other ∙ was; registers = refl; status = refl }
  ]

  been-sliced : (thread : ℕ) (later : ThreadState) → after.objects thread ≡ Some (ThreadObject later) → HasBeen s thread later
  been-sliced thread later is = elim (decided thread x) [
    | inl at ↦
        let same : new ≡ later = one-thread (after.objects thread) new later (here thread at) is in
        record { old = own; was = ap s.objects at ∙ there; status = ap (λ (u : ThreadState). u.status) (sym same) }
    | inr other ↦ record { old = later; was = sym (elsewhere thread other) ∙ is; status = refl }
  ]

  no-thread : (queue : ℕ) (object : Object) → ((t : ThreadState) → Some (ThreadObject t) ≡ Some object → ⊥) → after.objects queue ≡ Some object →
      s.objects queue ≡ Some object
  no-thread queue object other is = elim (decided queue x) [
    | inl at ↦ absurd (other new (sym (here queue at) ∙ is))
    | inr apart ↦ sym (elsewhere queue apart) ∙ is
  ]

  waits-sliced : (thread : ℕ) → WaitsOn s after thread
  waits-sliced thread = record {
    sends = λ queue e y is among own. (e, no-thread queue (EndpointObject e) (λ t. thread-no-endpoint t e) is, among);
    receives = λ queue e is among. (e, no-thread queue (EndpointObject e) (λ t. thread-no-endpoint t e) is, among);
    waits = λ queue n is among. (n, no-thread queue (NotificationObject n) (λ t. thread-no-notification t n) is, among);
  }

  pub rest-sliced : OthersRest s after (λ _. false)
  rest-sliced = record {
    goes = λ thread old none was. goes-sliced thread old was;
    been = λ thread later none is. been-sliced thread later is;
    queues = λ thread none. waits-sliced thread;
  }

-- ---- all threads

module _ (stand-on : StandsOn) (bytes : List ℕ) (image : Image) (s : State) (labels : List Label) (accepted : IsAccepted bytes image)
    (all : AllStand image s labels) where
  stands-over : (after : State) → IsSound after → SameGround image s after → OthersRest s after (λ _. false) → AllStand image after (labels ++ Ticked ∷ [])
  stands-over after sound store rest =
      all-stand stand-on bytes image s after labels (labels ++ Ticked ∷ []) (λ _. false) accepted all sound store rest
      (λ t listed never. absurd (let clash : false ≡ true = never in cc)) (λ offset own never. absurd (let clash : false ≡ true = never in cc))
      (λ t listed none. other-label (tcb_of image t) labels Ticked refl)

  sliced : (x slice : ℕ) (own : ThreadState) → s.objects x ≡ Some (ThreadObject own) → (after : State) → IsSound after → SameGround image s after
      → ((y : ℕ) → after.objects y ≡ put s.objects x (Some (ThreadObject (record own { slice = slice }))) y) → AllStand image after (labels ++ Ticked ∷ [])
  sliced x slice own there after sound store objects = stands-over after sound store (rest-sliced s after x slice own there objects)

  same-ground : (ready : ℕ → List ℕ) (objects : ℕ → Option Object) → SameGround image s (record s { ready = ready; objects = objects })
  same-ground ready objects = record { memory_bits = refl; boot_radix = refl; slots = λ slot. refl; bytes = λ frame place code low high. refl }

  ticked-stands : (x : ℕ) (own : ThreadState) → s.objects x ≡ Some (ThreadObject own) → IsSound (ticked s x) →
      AllStand image (ticked s x) (labels ++ Ticked ∷ [])
  ticked-stands x own there =
      let slice = (thread_at s x).slice in
      let same : thread_at s x ≡ own = ap (λ (o : Option Object). option_map_or (λ (u : ThreadState). u) (as_thread o) new_thread) there in
      elim (nat_le slice 1) as (λ b. let after = if b then yielded s x else with_thread s x (record (thread_at s x) { slice = slice - 1 }) in IsSound after →
      AllStand image after (labels ++ Ticked ∷ [])) [
        | true ↦ λ sound. sliced x full_slice own there (yielded s x) sound
            (record { memory_bits = refl; boot_radix = refl; slots = λ slot. refl; bytes = λ frame place code low high. refl })
            (λ y. ap (λ (u : ThreadState). put s.objects x (Some (ThreadObject (record u { slice = full_slice }))) y) same)
        | false ↦ λ sound. sliced x (slice - 1) own there (with_thread s x (record (thread_at s x) { slice = slice - 1 })) sound
            (record { memory_bits = refl; boot_radix = refl; slots = λ slot. refl; bytes = λ frame place code low high. refl })
            (λ y. ap (λ (u : ThreadState). put s.objects x (Some (ThreadObject (record u { slice = slice - 1 }))) y) same)
      ]

  rest-same : OthersRest s s (λ _. false)
  rest-same = record {
    goes = λ thread old none was. stays-as s thread old was;
    been = λ thread later none is. record { old = later; was = is; status = refl };
    queues = λ thread none. record {
      sends = λ queue e y is among own. (e, is, among);
      receives = λ queue e is among. (e, is, among);
      waits =
          λ queue n is among. (n, is, among);
    };
  }

  tick-stands : IsSound (tick s) → AllStand image (tick s) (labels ++ Ticked ∷ [])
  tick-stands =
      elim (current s)
      as (λ o. current s ≡ o → IsSound (option_map_or (ticked s) o s) → AllStand image (option_map_or (ticked s) o s) (labels ++ Ticked ∷ [])) [
        | None ↦ λ none sound.
            stands-over s sound (record { memory_bits = refl; boot_radix = refl; slots = λ slot. refl; bytes = λ frame place code low high. refl }) rest-same
        | Some x ↦ λ some sound. ticked-stands x (thread_at s x) (thread-there (s.objects x) (current-runs s all.sound.threads x some).kind) sound
      ] refl

pub one-event : EventsKeepSoundness → (s : State) (event : Event) → IsSound s → IsSound (step s event).0
unfolding state_after
one-event keeps s event sound = keeps s (event ∷ []) sound

pub all-over-tick : StandsOn → EventsKeepSoundness → (bytes : List ℕ) (image : Image) (s : State) (labels : List Label) → IsAccepted bytes image →
    AllStand image s labels
    → AllStand image (step s Tick).0 (labels ++ (step s Tick).1 ∷ [])
unfolding step
all-over-tick stand-on keeps bytes image s labels accepted all = tick-stands stand-on bytes image s labels accepted all (one-event keeps s Tick all.sound)
