-- From the described state on, event by event: what changed has a cause so far, and who has not run yet is as the image lists it.
use Rattle.std.proofs.Common.{ℕ, ◌≡◌, ◌≢◌, ◌∙◌, ◌++◌, ◌⊎◌, inl, inr, List, [], ◌∷◌, Option, Some, None, option_map, refl, sym, ap, subst, append_assoc}
use Rattle.std.proofs.Common.{append-nil}
use Rattle.std.specs.Prelude.{Contains}
use Rattle.std.proofs.lemmas.Bool.Decides.{eqb_tells}
use Rattle.std.proofs.lemmas.Option.{none-some, same_Some}
use Rattle.soundness.specs.Machines.{SameBase, SameBesideBytes}
use Rattle.soundness.proofs.Laws.{current-runs, thread-kind, written-beside, written-byte}
use Rattle.model.specs.declared.events.Event.{Event}
use Rattle.model.specs.declared.events.Event.TheVariants.{Step, Tick, Irq, Write, Read}
use Rattle.model.specs.declared.labels.Label.{Label}
use Rattle.model.specs.Acceptance.Accepted.{IsAccepted}
use Rattle.model.specs.Acceptance.Authority.{OwnStep, StaysWithin}
use Rattle.model.specs.Acceptance.ThreadInvariants.{tcb_of}
use Rattle.model.specs.Capabilities.Slots.{Slots}
use Rattle.model.specs.Images.Described.{Numbered, described, numbered_threads}
use Rattle.model.specs.Images.Image.{Image}
use Rattle.model.specs.Kernel.Kinds.{kind_at, kind_of}
use Rattle.model.specs.Kernel.Scheduling.{current}
use Rattle.model.specs.Kernel.State.{State, Object, ThreadState}
use Rattle.model.specs.Kernel.Steps.{place_of, state_after, step}
use Rattle.headline.specs.authority.Events.{InterruptChange, joins, passes_on, wakes, WithinInterrupt, WithinTick}
use Rattle.headline.specs.facts.Standing.{AllStand}
use Rattle.headline.specs.integrity.Mapped.{AllMapAsHeld}
use Rattle.headline.specs.integrity.Runs.{HasIntegrity, HasRun, SomeRan, WorldWrote, has_memory_at, owns_slot, last_of, may_write_at}
use Rattle.headline.specs.parts.Given.{AllHoldGiven}
use Rattle.headline.proofs.steps.Laws.{state-next}
use Rattle.headline.proofs.authority.Laws.{raise-within, tick-within}
use Rattle.headline.proofs.facts.Laws.{at-place}
use Rattle.headline.proofs.integrity.SameKinds.{some-kinds}
use Rattle.headline.proofs.integrity.Steps.{byte-changed, object-changed, ran-before, some-before, wrote-before}
use Rattle.headline.proofs.integrity.Unmoved.{HasNotBegun, interrupt-leaves, others-leave, same-object, tick-leaves}
use Rattle.headline.proofs.kept.Laws.{listed-from}
use Rattle.headline.proofs.parts.Laws.{Decided, some-entries, some-numbers}
use Rattle.headline.proofs.starts.Laws.{contained}

-- ---- what an event changes has a cause

record IsExplained (image : Image) (events : List Event) (s after : State) : Type 0 where
  pub bytes : (place : ℕ) → s.bytes place ≢ after.bytes place → SomeRan image events (λ t. may_write_at image t place) ⊎ WorldWrote events place
  pub objects : (offset : ℕ) → kind_at s offset ≢ kind_at after offset → SomeRan image events (λ t. has_memory_at image t offset)
  pub slots : (slot : ℕ) → s.slots slot ≢ after.slots slot → SomeRan image events (λ t. owns_slot image t slot)
  pub threads : (u : Numbered) → Contains (numbered_threads image) u → HasNotBegun image u s → HasRun image events u.thread ⊎ HasNotBegun image u after

-- so far
record IsKept (image : Image) (events : List Event) (s : State) : Type 0 where
  pub bytes : (place : ℕ) → (s.bytes place ≡ (described image).bytes place)
      ⊎ (SomeRan image events (λ t. may_write_at image t place) ⊎ WorldWrote events place)
  pub objects : (offset : ℕ) → (kind_at s offset ≡ kind_at (described image) offset) ⊎ SomeRan image events (λ t. has_memory_at image t offset)
  pub slots : (slot : ℕ) → (s.slots slot ≡ (described image).slots slot) ⊎ SomeRan image events (λ t. owns_slot image t slot)
  pub threads : (u : Numbered) → Contains (numbered_threads image) u → HasRun image events u.thread ⊎ HasNotBegun image u s

-- what stayed so far stays, or changes now for a cause
joined : {A Cause Later : Type 0} (first was is : A) → Decided was is → (was ≡ first) ⊎ Cause → (Cause → Later) → (was ≢ is → Later) → (is ≡ first) ⊎ Later
joined first was is (inr differs) old more why = inr (why differs)
joined first was is (inl same) (inl old) more why = inl (sym same ∙ old)
joined first was is (inl same) (inr cause) more why = inr (more cause)

next-kept : (image : Image) (front : List Event) (event : Event) (s after : State) → IsKept image front s → IsExplained image (front ++ event ∷ []) s after
    → IsKept image (front ++ event ∷ []) after
next-kept image front event s after old new = record {
  bytes = λ place. joined ((described image).bytes place) (s.bytes place) (after.bytes place) (some-numbers (s.bytes place) (after.bytes place))
      (old.bytes place) (λ cause. elim cause [
        | inl ran ↦ inl (some-before image front event (λ t. may_write_at image t place) ran)
        | inr world ↦ inr (wrote-before front event place world)
      ]) (new.bytes place);
  objects = λ offset. joined (kind_at (described image) offset) (kind_at s offset) (kind_at after offset)
      (some-kinds (kind_at s offset) (kind_at after offset)) (old.objects offset) (some-before image front event (λ t. has_memory_at image t offset))
      (new.objects offset);
  slots = λ slot. joined ((described image).slots slot) (s.slots slot) (after.slots slot) (some-entries (s.slots slot) (after.slots slot)) (old.slots slot)
      (some-before image front event (λ t. owns_slot image t slot)) (new.slots slot);
  threads = λ u among. elim (old.threads u among) [
    | inl ran ↦ inl (ran-before image front event u.thread ran)
    | inr not_begun ↦ new.threads u among not_begun
  ];
}

-- ---- ticks and interrupts

tick-kinds : (image : Image) (s after : State) (labels : List Label) → AllStand image s labels → WithinTick s after → (offset : ℕ)
    → kind_at s offset ≡ kind_at after offset
tick-kinds image s after labels all within offset = elim (current s) as (λ (o : Option ℕ). current s ≡ o → kind_at s offset ≡ kind_at after offset) [
  | None ↦ λ none. ap (option_map kind_of) (sym (within.others offset (λ some. none-some offset (sym none ∙ some))))
  | Some x ↦ λ now. elim (eqb_tells x offset) [
    | inr apart ↦ ap (option_map kind_of) (sym (within.others offset (λ some. apart.1 (same_Some x offset (sym now ∙ some)))))
    | inl here ↦
        let there = thread-kind (s.objects x) (current-runs s all.sound.threads x now).kind in
        let ran = within.runs x there.0 now there.1 in
        ap (kind_at s) (sym here.1) ∙ ap (option_map kind_of) there.1 ∙ sym (ap (option_map kind_of) ran.1) ∙ ap (kind_at after) here.1
  ]
] refl

interrupt-kinds : (number : ℕ) (s after : State) (offset : ℕ) → InterruptChange number s after offset → kind_at s offset ≡ kind_at after offset
interrupt-kinds number s after offset (joins badge old delivered there empty now) = ap (option_map kind_of) there ∙ sym (ap (option_map kind_of) now)
interrupt-kinds number s after offset (passes_on badge first others old delivered there list now) =
    ap (option_map kind_of) there ∙ sym (ap (option_map kind_of) now)
interrupt-kinds number s after offset (wakes notification badge old delivered first there now) =
    ap (option_map kind_of) there ∙ sym (ap (option_map kind_of) now)

-- ---- what is known of each state

pub record IsKnown (image : Image) (front : List Event) : Type 0 where
  pub labels : List Label
  pub stand : AllStand image (last_of image front) labels
  pub given : AllHoldGiven image (last_of image front)
  pub mapped : AllMapAsHeld image (last_of image front)
  pub within : (event : Event) → StaysWithin image (last_of image front) event (step (last_of image front) event).0

module _ (bytes : List ℕ) (image : Image) (accepted : IsAccepted bytes image) where
  module _ (front : List Event) (known : IsKnown image front) (kept : IsKept image front (last_of image front)) (after : State) (later : List Label)
      (behind : AllStand image after later) where
    abbrev s : State
    s = last_of image front

    own-step : OwnStep image (last_of image front) after → IsExplained image (front ++ Step ∷ []) (last_of image front) after
    own-step own =
        let place = contained image.threads own.thread own.listed in
        let there = listed-from 0 image.threads place.0 own.thread place.1 in
        let t : Numbered = record { number = there.0; thread = own.thread } in
        record {
          bytes = λ place differs. inl
              (byte-changed bytes image accepted front known.labels known.stand known.given known.mapped kept.threads t there.1 own.runs after own.within place
              differs);
          objects =
              object-changed bytes image accepted front known.labels known.stand known.given known.mapped kept.threads t there.1 own.runs after own.within;
          slots = λ slot differs. record {
            thread = own.thread;
            listed = own.listed;
            ran = record { before = front; later = []; is = refl; runs = own.runs };
            passes = own.within.slots slot differs;
          };
          threads = λ u among not_begun. elim (eqb_tells (tcb_of image u) (tcb_of image t)) [
            | inl same ↦ inl (record { before = front; later = []; is = refl; runs = own.runs ∙ ap (λ (n : ℕ). Some n) (sym same.1) })
            | inr apart ↦ inr (others-leave image u s after not_begun later (behind.stand u among) t own.within apart.1)
          ];
        }

    -- nothing changes
    same-explained : (event : Event) → after ≡ last_of image front → IsExplained image (front ++ event ∷ []) (last_of image front) after
    same-explained event same = record {
      bytes = λ place differs. absurd (differs (ap (λ (x : State). x.bytes place) (sym same)));
      objects = λ offset differs. absurd (differs (ap (λ (x : State). kind_at x offset) (sym same)));
      slots = λ slot differs. absurd (differs (ap (λ (x : State). x.slots slot) (sym same)));
      threads = λ u among not_begun. inr (same-object image u s after not_begun (ap (λ (x : State). x.objects (tcb_of image u)) same));
    }

    explained : (event : Event) → StaysWithin image (last_of image front) event after → IsExplained image (front ++ event ∷ []) (last_of image front) after
    explained Step (inl idle) = same-explained Step idle.1
    explained Step (inr own) = own-step own
    explained Tick is =
        let within : WithinTick s after = subst (WithinTick s) (sym is) (tick-within s known.stand.sound) in
        record {
          bytes = λ place differs. absurd (differs (sym (within.store.bytes place)));
          objects = λ offset differs. absurd (differs (tick-kinds image s after known.labels known.stand within offset));
          slots = λ slot differs. absurd (differs (sym (within.store.slots slot)));
          threads = λ u among not_begun. inr (tick-leaves image u s after not_begun within);
        }
    explained (Irq number) is =
        let within = subst (WithinInterrupt number s) (sym is) (raise-within s known.stand.sound number) in
        record {
          bytes = λ place differs. absurd (differs (sym (within.store.bytes place)));
          objects = λ offset differs. absurd (differs (interrupt-kinds number s after offset
              (within.objects offset (λ same. differs (ap (option_map kind_of) same)))));
          slots = λ slot differs. absurd (differs (sym (within.store.slots slot)));
          threads = λ u among not_begun. inr (interrupt-leaves image u s after not_begun known.stand.sound later (behind.stand u among) number within);
        }
    explained (Write address word) is =
        let place = place_of address in
        let beside = written-beside s place word in
        let objects : after.objects ≡ s.objects = ap (λ (x : State). x.objects) is ∙ SameBesideBytes.objects beside in
        let slots : after.slots ≡ s.slots = ap (λ (x : State). x.slots) is ∙ SameBase.slots (SameBesideBytes.base beside) in
        record {
          bytes = λ other differs. elim (written-byte s place word other) [
            | inl same ↦ absurd (differs (sym (ap (λ (x : State). x.bytes other) is ∙ same)))
            | inr changed ↦ inr (record {
              before = front;
              later = [];
              address = address;
              word = word;
              is = refl;
              begins = changed.0;
              ends = changed.1;
            })
          ];
          objects = λ offset differs. absurd (differs (ap (λ (o : ℕ → Option Object). option_map kind_of (o offset)) (sym objects)));
          slots = λ slot differs. absurd (differs (ap (λ (o : Slots). o slot) (sym slots)));
          threads = λ u among not_begun. inr
              (same-object image u s after not_begun (ap (λ (o : ℕ → Option Object). o (tcb_of image u)) objects));
        }
    explained (Read address) same = same-explained (Read address) same

  -- ---- any events

  module _ (events : List Event) (known : (front rest : List Event) → events ≡ front ++ rest → IsKnown image front) where
    kept-behind : (front rest : List Event) → events ≡ front ++ rest → IsKept image front (last_of image front) → IsKept image events (last_of image events)
    kept-behind front [] is kept =
        subst (λ (l : List Event). IsKept image l (last_of image l)) (sym (is ∙ append-nil front)) kept
    kept-behind front (event ∷ rest) is kept =
        let longer : events ≡ (front ++ event ∷ []) ++ rest = is ∙ sym (append_assoc front (event ∷ []) rest) in
        let here = known front (event ∷ rest) is in
        let next = known (front ++ event ∷ []) rest longer in
        let after : State = last_of image (front ++ event ∷ []) in
        let within : StaysWithin image (last_of image front) event after =
        subst (λ (x : State). StaysWithin image (last_of image front) event x) (sym (state-next (described image) front event)) (here.within event) in
        kept-behind (front ++ event ∷ []) rest longer
        (next-kept image front event (last_of image front) after kept (explained front here kept after next.labels next.stand event within))

    pub has-integrity : ((u : Numbered) → Contains (numbered_threads image) u → HasNotBegun image u (described image)) → HasIntegrity image events
    unfolding state_after
    has-integrity starts =
        let start : IsKept image [] (described image) = record {
          bytes = λ place. inl refl;
          objects = λ offset. inl refl;
          slots = λ slot. inl refl;
          threads = λ u among. inr (starts u among);
        } in
        let kept = kept-behind [] events refl start in
        record {
          bytes = λ place differs. elim (kept.bytes place) [ inl same ↦ absurd (differs same) | inr cause ↦ cause ];
          objects = λ offset differs. elim (kept.objects offset) [ inl same ↦ absurd (differs same) | inr cause ↦ cause ];
          slots = λ slot differs. elim (kept.slots slot) [ inl same ↦ absurd (differs same) | inr cause ↦ cause ];
          registers = λ t listed differs.
              let place = contained image.threads t listed in
              let there = listed-from 0 image.threads place.0 t place.1 in
              let u : Numbered = record { number = there.0; thread = t } in
              elim (kept.threads u there.1) [
                | inl ran ↦ ran
                | inr not_begun ↦ absurd (differs (ap (λ (x : ThreadState). x.registers)
                    (at-place (last_of image events) (tcb_of image u) not_begun.own not_begun.is)
                    ∙ not_begun.registers))
              ];
        }
