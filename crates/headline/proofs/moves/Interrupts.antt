-- An interrupt is a signal, or is pending.
use Rattle.std.proofs.Common.{ℕ, ◌≡◌, ◌∙◌, ◌++◌, ◌^◌, ◌<◌, true, false, nat_lt, if◌then◌else◌, Option, Some, None, List, [], ◌∷◌, refl, sym, ap, subst}
use Rattle.std.specs.Prelude.{Contains}
use Rattle.std.specs.Option.{option_map_or}
use Rattle.headline.specs.facts.Standing.{AllStand}
use Rattle.model.specs.declared.capabilities.Cap.{Cap}
use Rattle.model.specs.declared.capabilities.Cap.TheVariants.{Empty, Untyped, Endpoint, Notification, CNode, Frame, PageTable, Tcb, RootTable, InterruptControl}
use Rattle.model.specs.declared.capabilities.Cap.TheVariants.{InterruptHandler}
use Rattle.model.specs.declared.events.Event.TheVariants.{Irq}
use Rattle.model.specs.declared.labels.Label.{Label}
use Rattle.model.specs.declared.labels.Label.TheVariants.{Raised}
use Rattle.model.specs.Acceptance.Accepted.{IsAccepted}
use Rattle.headline.specs.moves.Ground.{SameGround}
use Rattle.model.specs.Acceptance.ThreadInvariants.{tcb_of}
use Rattle.model.specs.Capabilities.CapabilityWords.{IsCapability}
use Rattle.model.specs.Capabilities.Slots.{capability_at}
use Rattle.model.specs.Images.Described.{Numbered, numbered_threads}
use Rattle.model.specs.Images.Image.{Image}
use Rattle.model.specs.Kernel.Interrupts.{Signal, binding, interrupt, raise, signal_of, with_pending}
use Rattle.model.specs.Kernel.Kinds.{Names, kind_at}
use Rattle.model.specs.Kernel.Messages.{signals}
use Rattle.model.specs.Kernel.Retype.{NewNotification}
use Rattle.model.specs.Kernel.Soundness.{IsSound}
use Rattle.model.specs.Kernel.State.{State, NotificationState, binding_slot, notification_at, put, NotificationObject}
use Rattle.model.specs.Kernel.Steps.{step}
use Rattle.model.specs.Kernel.Waits.{open_count}
use Rattle.soundness.proofs.Laws.{notification-kind}
use Rattle.headline.specs.moves.Resting.{OthersRest}
use Rattle.headline.specs.moves.Laws.{Laws}
use Rattle.headline.proofs.moves.Puts.{other-label}
use Rattle.headline.proofs.moves.Signals.{signal-stands}
use Rattle.headline.proofs.moves.Standing.{all-stand}
use Rattle.headline.proofs.moves.Ticks.{one-event}

-- ---- no object changes

pub rest-equal : (s after : State) → ((y : ℕ) → after.objects y ≡ s.objects y) → OthersRest s after (λ _. false)
rest-equal s after same = record {
  goes = λ thread old none was. record { new = old; is = same thread ∙ was; registers = refl; status = refl };
  been = λ thread later none is. record { old = later; was = sym (same thread) ∙ is; status = refl };
  queues = λ thread none. record {
    sends = λ queue e x is among own. (e, sym (same queue) ∙ is, among);
    receives = λ queue e is among. (e, sym (same queue) ∙ is, among);
    waits = λ queue n is among. (n, sym (same queue) ∙ is, among);
  };
}

-- ---- what a line is bound to

-- a notification, with a badge
record IsBound (capability : Cap) (bound : Signal) : Type 0 where
  named : Names NewNotification bound.notification capability
  small : bound.badge < 2 ^ 28

bound-by : (c : Cap) (bound : Signal) → IsCapability c → signal_of c ≡ Some bound → IsBound c bound
bound-by (Notification offset r badge) bound valid is =
    let same : record { notification = offset; badge = badge } ≡ bound = cc in
    record { named = ap (λ (b : Signal). Some (NewNotification, b.notification)) same; small = subst (λ (b : Signal). b.badge < 2 ^ 28) same valid.2 }
bound-by Empty bound valid is = absurd (let clash : ◌≡◌ {A = Option Signal} None (Some bound) = is in cc)
bound-by (Untyped offset bits watermark) bound valid is = absurd (let clash : ◌≡◌ {A = Option Signal} None (Some bound) = is in cc)
bound-by (Endpoint offset r badge) bound valid is = absurd (let clash : ◌≡◌ {A = Option Signal} None (Some bound) = is in cc)
bound-by (CNode offset radix guard) bound valid is = absurd (let clash : ◌≡◌ {A = Option Signal} None (Some bound) = is in cc)
bound-by (Frame offset r mapping) bound valid is = absurd (let clash : ◌≡◌ {A = Option Signal} None (Some bound) = is in cc)
bound-by (PageTable offset mapping) bound valid is = absurd (let clash : ◌≡◌ {A = Option Signal} None (Some bound) = is in cc)
bound-by (Tcb offset) bound valid is = absurd (let clash : ◌≡◌ {A = Option Signal} None (Some bound) = is in cc)
bound-by (RootTable offset) bound valid is = absurd (let clash : ◌≡◌ {A = Option Signal} None (Some bound) = is in cc)
bound-by InterruptControl bound valid is = absurd (let clash : ◌≡◌ {A = Option Signal} None (Some bound) = is in cc)
bound-by (InterruptHandler irq_line) bound valid is = absurd (let clash : ◌≡◌ {A = Option Signal} None (Some bound) = is in cc)

-- the notification that a line is bound to is there
pub record BoundThere (s : State) (bound : Signal) : Type 0 where
  pub old : NotificationState
  pub was : s.objects bound.notification ≡ Some (NotificationObject old)
  pub small : bound.badge < 2 ^ 28

pub bound-there : (s : State) → IsSound s → (line : ℕ) (bound : Signal) → binding s line ≡ Some bound → BoundThere s bound
bound-there s sound line bound is =
    let slot = binding_slot s line in
    let b = bound-by (capability_at s.slots slot) bound (sound.slots.derivation.valid slot) is in
    let kind : kind_at s bound.notification ≡ Some NewNotification = sound.memory.named slot NewNotification bound.notification (IsBound.named b) in
    let there = notification-kind (s.objects bound.notification) kind in
    record { old = there.0; was = there.1; small = IsBound.small b }

-- ---- all threads

module _ (laws : Laws) (bytes : List ℕ) (image : Image) (s : State) (labels later : List Label) (accepted : IsAccepted bytes image)
    (all : AllStand image s labels)
    (counts : (t : Numbered) → Contains (numbered_threads image) t → open_count (tcb_of image t) later ≡ open_count (tcb_of image t) labels) where
  pub unchanged-stand : (after : State) → IsSound after → SameGround image s after → ((y : ℕ) → after.objects y ≡ s.objects y) → AllStand image after later
  unchanged-stand after sound store same =
      all-stand laws.stand_on bytes image s after labels later (λ _. false) accepted all sound store (rest-equal s after same)
      (λ t listed never. absurd (let clash : false ≡ true = never in cc)) (λ offset own never. absurd (let clash : false ≡ true = never in cc))
      (λ t listed rests. counts t listed)

  delivered-stand : (line : ℕ) (bound : Signal) → binding s line ≡ Some bound → IsSound (interrupt s line bound) → SameGround image s (interrupt s line bound) →
      AllStand image (interrupt s line bound) later
  delivered-stand line bound is sound store =
      let there = bound-there s all.sound line bound is in
      signal-stands laws bytes image s labels later accepted all counts bound.notification bound.badge there.small there.old there.was (interrupt s line bound)
      sound store (λ y. refl)

  signals-store : (n badge line : ℕ) (o : NotificationState) (waiters : List ℕ) →
      SameGround image s (record (signals s n badge o waiters) { masked = put s.masked line true })
  signals-store n badge line o [] = record { memory_bits = refl; boot_radix = refl; slots = λ slot. refl; bytes = λ frame place code low high. refl }
  signals-store n badge line o (w ∷ others) = record { memory_bits = refl; boot_radix = refl; slots = λ slot. refl; bytes = λ frame place code low high. refl }

  bound-stands : (line : ℕ) (bound : Option Signal) → binding s line ≡ bound → IsSound (option_map_or (interrupt s line) bound (with_pending s line true))
      → AllStand image (option_map_or (interrupt s line) bound (with_pending s line true)) later
  bound-stands line None is sound = unchanged-stand (with_pending s line true) sound
      (record { memory_bits = refl; boot_radix = refl; slots = λ slot. refl; bytes = λ frame place code low high. refl }) (λ y. refl)
  bound-stands line (Some bound) is sound =
      let o = notification_at s bound.notification in
      delivered-stand line bound is sound (signals-store bound.notification bound.badge line o o.waiters)

  raised-stands : (line : ℕ) → IsSound (raise s line) → AllStand image (raise s line) later
  raised-stands line =
      elim (nat_lt 63 line) as (λ b. let after = if b then s else if s.masked line then with_pending s line true else
      option_map_or (interrupt s line) (binding s line) (with_pending s line true) in IsSound after →
      AllStand image after later) [
        | true ↦ λ sound. unchanged-stand s sound
            (record { memory_bits = refl; boot_radix = refl; slots = λ slot. refl; bytes = λ frame place code low high. refl }) (λ y. refl)
        | false ↦ elim (s.masked line) as (λ b. let after = if b then with_pending s line true else
            option_map_or (interrupt s line) (binding s line) (with_pending s line true) in IsSound after →
            AllStand image after later) [
              | true ↦ λ sound. unchanged-stand (with_pending s line true) sound
                  (record { memory_bits = refl; boot_radix = refl; slots = λ slot. refl; bytes = λ frame place code low high. refl }) (λ y. refl)
              | false ↦ bound-stands line (binding s line) refl
            ]
      ]

pub all-over-interrupt : Laws → (bytes : List ℕ) (image : Image) (s : State) (labels : List Label) (number : ℕ) → IsAccepted bytes image →
    AllStand image s labels
    → AllStand image (step s (Irq number)).0 (labels ++ (step s (Irq number)).1 ∷ [])
unfolding step
all-over-interrupt laws bytes image s labels number accepted all =
    raised-stands laws bytes image s labels (labels ++ Raised number ∷ []) accepted all (λ t listed. other-label (tcb_of image t) labels (Raised number) refl)
    number
    (one-event laws.keeps s (Irq number) all.sound)
