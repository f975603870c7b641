-- All threads where a call has changed slots of the thread that makes it, and that has passed: the others are left alone.
use Rattle.std.proofs.Common.{ℕ, ◌≡◌, ◌≢◌, ◌∙◌, ◌⊎◌, inl, inr, false, Option, Some, List, refl, sym, ap, subst}
use Rattle.std.specs.Prelude.{Contains}
use Rattle.headline.specs.facts.Hanging.{HangsAsListed}
use Rattle.headline.specs.facts.Standing.{AllStand, IsControlBlock}
use Rattle.headline.specs.facts.Waiting.{WaitsAsAsked}
use Rattle.model.specs.declared.labels.Label.{Label}
use Rattle.model.specs.Acceptance.Accepted.{IsAccepted}
use Rattle.model.specs.Acceptance.CallRules.{AfterCall}
use Rattle.model.specs.Acceptance.NotedStates.{PointState}
use Rattle.model.specs.Acceptance.ThreadInvariants.{ThreadInvariant, tcb_of}
use Rattle.model.specs.Images.Described.{Numbered, numbered_threads}
use Rattle.model.specs.Images.Image.{Image}
use Rattle.model.specs.Kernel.Soundness.{IsSound}
use Rattle.model.specs.Kernel.State.{State, Inactive, Object, ThreadObject, EndpointObject, NotificationObject, ThreadState}
use Rattle.headline.specs.moves.Moving.{CallsAt, IsLeftAlone, PassesWith, WaitsOn}
use Rattle.headline.proofs.moves.Laws.{IsCounted, NoThread, decided, runs-free, stands-alone}
use Rattle.headline.specs.invocations.Answered.{DerivesFromSome}
use Rattle.headline.specs.invocations.Changes.{ChangesOwn}
use Rattle.headline.specs.invocations.Mirrors.{Mirrors}
use Rattle.headline.proofs.invocations.ChangedOthers.{hangs-on, untouched}
use Rattle.headline.proofs.invocations.ChangedStanding.{passes-with-slots}
use Rattle.headline.specs.kept.Laws.{HaveOwnBlocks, StandsOn, IsLong}
use Rattle.headline.specs.calls.Laws.{LeadsOn, ResultFits}

-- the laws below, as their functions' contracts say them
pub record LawsOfCalls : Type 0 where
  pub stand_on : StandsOn
  pub own_blocks : HaveOwnBlocks
  pub lead : LeadsOn
  pub is_long : IsLong
  pub result : ResultFits

module _ (laws : LawsOfCalls) (bytes : List ℕ) (image : Image) (t : Numbered) (s : State) (labels later : List Label) (own : ThreadState) (point : ℕ)
    (state : PointState) (left : AfterCall) (after : State) (accepted : IsAccepted bytes image) (all : AllStand image s labels)
    (listed : Contains (numbered_threads image) t)
    (at : CallsAt image t s labels own point state left) (m : Mirrors image t s state.slots) (c : ChangesOwn image t s after left.slots)
    (hung : DerivesFromSome image t after)
    (counts : IsCounted image t labels later false) where
  abbrev tcb : ℕ
  tcb = tcb_of image t

  -- ---- where the thread's object alone is another one

  module _ (objects : ℕ → Option Object) (others : (y : ℕ) → y ≢ tcb_of image t → objects y ≡ after.objects y)
      (sound : IsSound (record after { objects = objects })) (wait : left.is_wait ≡ false)
      (passing : PassesWith (record after { objects = objects }) (tcb_of image t) own state left) where
    abbrev behind : State
    behind = record after { objects = objects }

    own-invariant : ThreadInvariant image t behind later
    own-invariant =
        let leads = laws.lead bytes image t point state left accepted listed at.stands.inside at.stands.known at.ecall at.call in
        passes-with-slots image t s after labels own point state left m c hung at leads objects sound later wait passing (counts.passes refl)

    own-waits : WaitsAsAsked image t behind
    own-waits = runs-free image t behind passing.next passing.is passing.runs

    -- a queue is as it is after the invocation
    queue-there : (y : ℕ) (object : Object) → NoThread object → objects y ≡ Some object → after.objects y ≡ Some object
    queue-there y object none there = elim (decided y tcb) [
      | inl here ↦
          let same : Some object ≡ Some (ThreadObject passing.next) = sym there ∙ ap objects here ∙ passing.is in
          absurd (none passing.next (let e : object ≡ ThreadObject passing.next = cc in e))
      | inr other ↦ sym (others y other) ∙ there
    ]

    waits-on : (thread : ℕ) → WaitsOn s behind thread
    waits-on thread = record {
      sends = λ queue e x there among mine. (e, c.sends queue e x (queue-there queue (EndpointObject e) (λ u clash. absurd cc) there) among, among);
      receives = λ queue e there among. (e, c.receives queue e thread (queue-there queue (EndpointObject e) (λ u clash. absurd cc) there) among, among);
      waits = λ queue n there among. (n, c.waits queue n thread (queue-there queue (NotificationObject n) (λ u clash. absurd cc) there) among, among);
    }

    -- ---- another thread

    module _ (u : Numbered) (among : Contains (numbered_threads image) u) (other : tcb_of image u ≢ tcb_of image t) where
      apart : u ≡ t → ⊥
      apart same = other (ap (tcb_of image) same)

      alone : IsLeftAlone image u s behind
      alone =
          let still = untouched image t s after state.slots left.slots m c u among apart in
          record {
            bytes = bytes;
            accepted = accepted;
            listed = among;
            before = all.sound;
            behind = sound;
            untouched = record {
              boot_radix = still.boot_radix;
              slots = still.slots;
              cspace = still.cspace;
              vspace = still.vspace;
              maps = still.maps;
              bytes = still.bytes;
            };
          }

      their-stand : ThreadInvariant image u behind later × WaitsAsAsked image u behind
      their-stand =
          stands-alone laws.stand_on image u s behind labels later alone
          (λ old was. record { new = old; is = others (tcb_of image u) other ∙ c.threads (tcb_of image u) old was; registers = refl; status = refl })
          (waits-on (tcb_of image u)) (counts.others (tcb_of image u) other) (all.stand u among) (all.wait u among)

      their-hang : HangsAsListed image u behind
      their-hang =
          let hangs = hangs-on image t s after state.slots left.slots m c u among apart (all.hang u among) in
          record { boot = hangs.boot; own = hangs.own }

    -- ---- all

    abbrev Stands : Numbered → Type 0
    Stands u = ThreadInvariant image u behind later × WaitsAsAsked image u behind × HangsAsListed image u behind

    each : (u : Numbered) → Contains (numbered_threads image) u → Stands u
    each u among = elim (decided (tcb_of image u) tcb) [
      | inl here ↦
          subst Stands (laws.own_blocks bytes image t u accepted listed among (sym here))
          (own-invariant, own-waits, record { boot = c.hang.boot; own = c.hang.own })
      | inr other ↦ let stands = their-stand u among other in (stands.0, stands.1, their-hang u among other)
    ]

    known : (offset : ℕ) (x : ThreadState) → objects offset ≡ Some (ThreadObject x) → (x.status ≡ Inactive) ⊎ IsControlBlock image offset
    known offset x there = elim (decided offset tcb) [
      | inl here ↦ inr (record { thread = t; listed = listed; is = here })
      | inr other ↦ all.others offset x (c.been offset x (sym (others offset other) ∙ there))
    ]

    pub stand-with : AllStand image behind later
    stand-with = record {
      sound = sound;
      stand = λ u among. (each u among).0;
      wait = λ u among. (each u among).1;
      others = known;
      apart = λ slot alone. c.others slot (alone t listed) ∙ all.apart slot alone;
      hang = λ u among. (each u among).2;
      memory_bits = c.memory_bits ∙ all.memory_bits;
      boot_radix = c.boot_radix ∙ all.boot_radix;
    }
