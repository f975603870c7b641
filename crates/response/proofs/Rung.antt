-- What the step of a thread may make of words and lines, by its authority: at one notification alone a badge joins the word, and no line
-- is pending that was not.
use Rattle.std.proofs.Common.{ℕ, ◌≡◌, ◌≢◌, ◌∙◌, ◌&&◌, inl, inr, nat_lt, not, Bool, true, false, if◌then◌else◌, Option, Some, None, option_map}
use Rattle.std.proofs.Common.{[], refl, sym, ap, subst}
use Rattle.std.proofs.Common.{lt-ltb}
use Rattle.std.proofs.lemmas.Bool.Decides.{eqb_tells}
use Rattle.model.specs.declared.capabilities.Cap.{Cap}
use Rattle.model.specs.declared.system_calls.SystemCall.{SystemCall}
use Rattle.model.specs.declared.system_calls.SystemCall.TheVariants.{Sends, Receives, RepliesAndReceives, Replies, Yields, PutsCharacter}
use Rattle.model.specs.Acceptance.Authority.{CallNames, LineChange, NotificationChange, ObjectChange, WithinAuthority, appears, delivers, ends, joins, opens}
use Rattle.model.specs.Acceptance.Authority.{passes_on, self_of, taken, waits}
use Rattle.model.specs.Capabilities.CapabilityWords.{IsCapability}
use Rattle.model.specs.Capabilities.Slots.{capability_at}
use Rattle.model.specs.Images.Image.{Image, Thread}
use Rattle.model.specs.Kernel.Deliveries.{Signals, by_line, by_right}
use Rattle.model.specs.Kernel.Interrupts.{Signal, binding}
use Rattle.model.specs.Kernel.Kinds.{kind_of}
use Rattle.model.specs.Kernel.Retype.{NewCNode, NewEndpoint, NewFrame, NewNotification, NewObject, NewPageTable, NewRootTable, NewThread, NewUntyped, object}
use Rattle.model.specs.Kernel.State.{CNodeObject, EndpointObject, FrameObject, NotificationObject, NotificationState, Object, PageTableObject}
use Rattle.model.specs.Kernel.State.{RootTableObject, State, ThreadObject}
use Rattle.model.specs.Kernel.Steps.{named_slot}
use Rattle.response.specs.Asking.{Asked, Rings, Acknowledges, asked_by, asked_known}
use Rattle.response.specs.Asking.{asked_to_send, capability_found}
use Rattle.response.proofs.AskedNow.{asked_now}
use Rattle.response.proofs.Interrupts.{word-of}

-- ---- which notification a call may signal

-- an acknowledgement signals where it takes what is pending
abbrev pub rung_by : State → State → Asked → Option ℕ
rung_by s after (Rings o) = Some o
rung_by s after (Acknowledges number) =
    if nat_lt number 64 && s.pending number && not (after.pending number) then option_map (λ (bound : Signal). bound.notification) (binding s number) else None
rung_by s after _ = None

module _ (image : Image) (t : Thread) (s after : State) (valid : (slot : ℕ) → IsCapability (capability_at s.slots slot)) where
  abbrev self : ℕ
  self = self_of image t

  -- what the thread asks is what its call asks of the capability that it names
  pub asks-of : (Such : SystemCall → Cap → Type 0) (names : CallNames image t s Such)
      → asked_now s (self_of image t) ≡ asked_by names.call (capability_at s.slots names.slot)
  asks-of Such names =
      ap (λ (o : Option SystemCall). asked_known o (capability_found s.slots (named_slot s self))) names.asks
      ∙ ap (λ r. asked_by names.call (capability_found s.slots r)) names.named

  by-signal : (o badge : ℕ) (call : SystemCall) (c : Cap) → IsCapability c → Signals s after o badge call c → rung_by s after (asked_by call c) ≡ Some o
  by-signal o badge (Sends kind) c fits (by_right allowed sends is writes) = ap (λ (x : Cap). rung_by s after (asked_to_send kind x)) is
  by-signal o badge (Sends kind) c fits (by_line number sends is bound pending gone) =
      ap (λ (x : Cap). rung_by s after (asked_to_send kind x)) is
      ∙ ap (λ (b : Bool). if b && s.pending number && not (after.pending number) then option_map (λ (x : Signal). x.notification) (binding s number) else None)
      (lt-ltb number 64 (subst IsCapability is fits))
      ∙ ap (λ (b : Bool). if b && not (after.pending number) then option_map (λ (x : Signal). x.notification) (binding s number) else None) pending
      ∙ ap (λ (b : Bool). if not b then option_map (λ (x : Signal). x.notification) (binding s number) else None) gone
      ∙ ap (λ (b : Option Signal). option_map (λ (x : Signal). x.notification) b) bound
  by-signal o badge (Receives kind) c fits (by_right allowed sends is writes) = absurd (let clash : false ≡ true = sends in cc)
  by-signal o badge (Receives kind) c fits (by_line number sends is bound pending gone) = absurd (let clash : false ≡ true = sends in cc)
  by-signal o badge RepliesAndReceives c fits (by_right allowed sends is writes) = absurd (let clash : false ≡ true = sends in cc)
  by-signal o badge RepliesAndReceives c fits (by_line number sends is bound pending gone) = absurd (let clash : false ≡ true = sends in cc)
  by-signal o badge Replies c fits (by_right allowed sends is writes) = absurd (let clash : false ≡ true = sends in cc)
  by-signal o badge Replies c fits (by_line number sends is bound pending gone) = absurd (let clash : false ≡ true = sends in cc)
  by-signal o badge Yields c fits (by_right allowed sends is writes) = absurd (let clash : false ≡ true = sends in cc)
  by-signal o badge Yields c fits (by_line number sends is bound pending gone) = absurd (let clash : false ≡ true = sends in cc)
  by-signal o badge PutsCharacter c fits (by_right allowed sends is writes) = absurd (let clash : false ≡ true = sends in cc)
  by-signal o badge PutsCharacter c fits (by_line number sends is bound pending gone) = absurd (let clash : false ≡ true = sends in cc)

  pub signals-rung : (o badge : ℕ) → CallNames image t s (Signals s after o badge) → rung_by s after (asked_now s (self_of image t)) ≡ Some o
  signals-rung o badge names =
      ap (rung_by s after) (asks-of (Signals s after o badge) names)
      ∙ by-signal o badge names.call (capability_at s.slots names.slot) (valid names.slot) names.such

  module _ (within : WithinAuthority image t s after) where
    -- ---- words

    -- a badge joined the word of a notification for which nobody waited
    pub record IsJoined (o : ℕ) : Type 0 where
      pub badge : ℕ
      pub names : CallNames image t s (Signals s after o badge)
      pub old : NotificationState
      pub was : s.objects o ≡ Some (NotificationObject old)
      pub nobody : old.waiters ≡ []

    pub data WordChange (o : ℕ) : Type 0 where
      fell : word-of (after.objects o) ≡ 0 → WordChange o
      same : word-of (after.objects o) ≡ word-of (s.objects o) → WordChange o
      joined : IsJoined o → WordChange o

    new-word : (kind : NewObject) → word-of (object kind) ≡ 0
    new-word (NewUntyped bits) = refl
    new-word NewThread = refl
    new-word NewEndpoint = refl
    new-word NewNotification = refl
    new-word (NewCNode radix) = refl
    new-word NewFrame = refl
    new-word NewPageTable = refl
    new-word NewRootTable = refl

    by-kinds : (o : ℕ) → ObjectChange image t s after o → WordChange o
    by-kinds o (appears kind absent is around) = fell (ap word-of is ∙ new-word kind)
    by-kinds o (ends kind was none around) = fell (ap word-of none)

    other-kind : (o : ℕ) (was : Option Object) (new : NotificationState) → s.objects o ≡ was → after.objects o ≡ Some (NotificationObject new)
        → option_map kind_of was ≢ Some NewNotification → WordChange o
    other-kind o was new before is differs =
        by-kinds o (within.objects o (λ alike. differs (sym (ap (option_map kind_of) before) ∙ alike ∙ ap (option_map kind_of) is)))

    by-change : (o : ℕ) (old new : NotificationState) → s.objects o ≡ Some (NotificationObject old) → after.objects o ≡ Some (NotificationObject new)
        → NotificationChange image t s after o old new → WordChange o
    by-change o old new was is (joins badge names nobody so) =
        joined (record { badge = badge; names = names; old = old; was = was; nobody = nobody })
    by-change o old new was is (passes_on badge first names list word gone) = same (ap word-of is ∙ word ∙ sym (ap word-of was))
    by-change o old new was is (taken names so) = fell (ap word-of is ∙ ap (λ (n : NotificationState). n.word) so)
    by-change o old new was is (waits names so) = same (ap word-of is ∙ ap (λ (n : NotificationState). n.word) so ∙ sym (ap word-of was))

    by-old : (o : ℕ) (new : NotificationState) → after.objects o ≡ Some (NotificationObject new) → (was : Option Object) → s.objects o ≡ was → WordChange o
    by-old o new is (Some (NotificationObject old)) was = elim (eqb_tells new.word old.word) [
      | inl alike ↦ same (ap word-of is ∙ alike.1 ∙ sym (ap word-of was))
      | inr apart ↦ by-change o old new was is
          (within.notifications o old new was is (λ alike. apart.1 (sym (ap (λ (n : NotificationState). n.word) alike))))
    ]
    by-old o new is None was = other-kind o None new was is (λ clash. absurd cc)
    by-old o new is (Some (ThreadObject x)) was =
        other-kind o (Some (ThreadObject x)) new was is (λ e. let clash : Some NewThread ≡ Some NewNotification = e in absurd cc)
    by-old o new is (Some (EndpointObject x)) was =
        other-kind o (Some (EndpointObject x)) new was is (λ e. let clash : Some NewEndpoint ≡ Some NewNotification = e in absurd cc)
    by-old o new is (Some (CNodeObject radix)) was =
        other-kind o (Some (CNodeObject radix)) new was is (λ e. let clash : Some (NewCNode radix) ≡ Some NewNotification = e in absurd cc)
    by-old o new is (Some FrameObject) was =
        other-kind o (Some FrameObject) new was is (λ e. let clash : Some NewFrame ≡ Some NewNotification = e in absurd cc)
    by-old o new is (Some PageTableObject) was =
        other-kind o (Some PageTableObject) new was is (λ e. let clash : Some NewPageTable ≡ Some NewNotification = e in absurd cc)
    by-old o new is (Some RootTableObject) was =
        other-kind o (Some RootTableObject) new was is (λ e. let clash : Some NewRootTable ≡ Some NewNotification = e in absurd cc)

    by-new : (o : ℕ) (is : Option Object) → after.objects o ≡ is → WordChange o
    by-new o (Some (NotificationObject new)) is = by-old o new is (s.objects o) refl
    by-new o None is = fell (ap word-of is)
    by-new o (Some (ThreadObject x)) is = fell (ap word-of is)
    by-new o (Some (EndpointObject x)) is = fell (ap word-of is)
    by-new o (Some (CNodeObject radix)) is = fell (ap word-of is)
    by-new o (Some FrameObject) is = fell (ap word-of is)
    by-new o (Some PageTableObject) is = fell (ap word-of is)
    by-new o (Some RootTableObject) is = fell (ap word-of is)

    pub word-changes : (o : ℕ) → WordChange o
    word-changes o = by-new o (after.objects o) refl

    -- ---- lines

    no-change : (number : ℕ) → after.pending number ≡ true → s.pending number ≡ false → LineChange s after number → ⊥
    no-change number pends none (opens why masked alike) = let clash : true ≡ false = sym pends ∙ alike ∙ none in absurd cc
    no-change number pends none (delivers o badge bound told was gone masked) = let clash : true ≡ false = sym pends ∙ gone in absurd cc

    -- no line is pending that was not
    pub pended : (number : ℕ) → after.pending number ≡ true → s.pending number ≡ true
    pended number pends = elim (s.pending number) as (λ b. s.pending number ≡ b → b ≡ true) [
      | true ↦ λ _. refl
      | false ↦ λ none. absurd (no-change number pends none (within.lines number
          (inr (λ alike. let clash : false ≡ true = sym none ∙ alike ∙ pends in absurd cc))).1)
    ] refl
