-- One interrupt more that signals its notification.
use Rattle.std.proofs.Common.{ℕ, ◌≡◌, ◌≢◌, ◌∙◌, ◌<◌, ◌^◌, false, not, None, Some, Option, Ok, [], ◌∷◌, map, refl, sym, ap, arith}
use Rattle.std.specs.Prelude.{slice_get}
use Rattle.std.specs.Option.{option_map_or}
use Rattle.std.proofs.lemmas.Bool.{lt-ltb, not-false}
use Rattle.model.specs.declared.capabilities.Cap.TheVariants.{Empty, Notification}
use Rattle.model.specs.declared.entries.InterruptEntry.{InterruptEntry}
use Rattle.model.specs.declared.slot_entries.Entry.{Entry}
use Rattle.model.specs.Capabilities.Rights.{endpoint_rights}
use Rattle.model.specs.Capabilities.Slots.{Slots, capability_at, inserted, is_empty, parent_at}
use Rattle.model.specs.Images.Boot.{made}
use Rattle.model.specs.Images.BootCalls.{Calls, boot_cnode, loader_call, signal_calls}
use Rattle.model.specs.Images.Described.{signalled}
use Rattle.model.specs.Images.Image.{Image}
use Rattle.model.specs.Images.Places.{handler_slot, notification_copy_slot, object_at, offset_of, original_slot, type_at}
use Rattle.model.specs.Kernel.CallForms.{mint_label, set_notification_label}
use Rattle.model.specs.Kernel.Retype.{NewNotification}
use Rattle.model.specs.Kernel.Soundness.{HasShape}
use Rattle.model.specs.Kernel.State.{State, line_slot, with_slots}
use Rattle.soundness.specs.boot_laws.Loading.{Progress, is_moved, loaded, original_so_far}
use Rattle.soundness.proofs.boot_laws.CallCopies.{IsSource, boot_mint-made}
use Rattle.soundness.proofs.boot_laws.CallDepths.{grandchild-shallow}
use Rattle.soundness.proofs.boot_laws.CallOriginals.{notification-type, original-loaded, stays}
use Rattle.soundness.proofs.boot_laws.CallSignals.{Binds, bind-made}
use Rattle.soundness.proofs.boot_laws.PhaseHandlers.{enough-slots, same-radix}
use Rattle.soundness.proofs.boot_laws.PhaseSources.{inserted-elsewhere, inserted-here, original-parent, original-source, untyped-less, untyped-root}
use Rattle.soundness.proofs.boot_laws.PhaseStates.{Known, capability-read, free-read, signals-next}
use Rattle.soundness.proofs.boot_laws.Readings.{entry, one_signal}
use Rattle.soundness.proofs.boot_laws.RunSequences.{Leads, leads-both, leads-call}

module _ (image : Image) (p : Progress) (i : InterruptEntry) (known : Known image p) (all : p.objects ≡ image.header.objects)
    (handled : p.handlers ≡ image.header.interrupts)
    (few : p.signals < image.header.interrupts) (at : slice_get image.interrupts p.signals ≡ Some i) where
  less : i.notification < image.header.objects
  less = (known.fits.interrupt p.signals i at).notification

  kind : type_at image i.notification ≡ Some NewNotification
  kind = notification-type (type_at image i.notification) (not-false _ (known.formed.interrupt p.signals i at))

  held : original_so_far image p i.notification ≡ Notification (offset_of image i.notification) endpoint_rights 0
  held = original-loaded image i.notification NewNotification kind (λ m. refl) p

  still : is_moved image p i.notification ≡ false
  still = stays image i.notification NewNotification kind (λ m. refl) p refl

  abbrev before : State
  before = loaded image p

  abbrev copy_slot : ℕ
  copy_slot = notification_copy_slot image p.signals

  abbrev between_slots : Slots
  between_slots = inserted before.slots copy_slot (signalled image i) (Some (original_slot image i.notification))

  abbrev between : State
  between = with_slots before between_slots

  copy-below : copy_slot < 2 ^ image.header.boot_radix
  copy-below = let enough = enough-slots image known.formed in omega (arith, enough, few)

  mints : made before (loader_call boot_cnode mint_label (copy_slot ∷ 32 ∷ original_slot image i.notification ∷ 32 ∷ 11 ∷ i.badge ∷ [])) ≡ Ok between
  mints =
      let small = (known.fits.interrupt p.signals i at).badge in
      let source = original-source image p i.notification known all less still in
      let from : IsSource before (original_slot image i.notification) (Notification (offset_of image i.notification) endpoint_rights 0) =
      record { inside = source.inside; holds = source.holds ∙ held; shallow = source.shallow } in
      boot_mint-made before copy_slot (original_slot image i.notification) (Notification (offset_of image i.notification) endpoint_rights 0) 11 known.shape
      (rw (same-radix image p) copy-below) (free-read image p copy_slot (known.empty.notification p.signals (omega arith) few)) from i.badge
      (record { some = refl; shared = refl; plain = refl; badge = lt-ltb i.badge (2 ^ 28) small; guard = refl })

  -- other slots are as they were
  same : (slot : ℕ) → slot ≢ copy_slot → between_slots slot ≡ before.slots slot
  same slot apart = inserted-elsewhere before.slots copy_slot (signalled image i) (Some (original_slot image i.notification)) slot apart

  here : between_slots copy_slot ≡ Some (entry (signalled image i) (Some (original_slot image i.notification)))
  here = inserted-here before.slots copy_slot (signalled image i) (Some (original_slot image i.notification))

  parent-same : (slot : ℕ) → slot ≢ copy_slot → parent_at between_slots slot ≡ parent_at before.slots slot
  parent-same slot apart = ap (λ (o : Option Entry). option_map_or (λ e. e.parent) o None) (same slot apart)

  capability-same : (slot : ℕ) → slot ≢ copy_slot → capability_at between_slots slot ≡ capability_at before.slots slot
  capability-same slot apart = ap (λ (o : Option Entry). option_map_or (λ e. e.capability) o Empty) (same slot apart)

  shape-between : HasShape between
  shape-between = record {
    least_bits = known.shape.least_bits;
    most_bits = known.shape.most_bits;
    least_radix = known.shape.least_radix;
    most_radix = known.shape.most_radix;
    room = known.shape.room;
  }

  line-apart : line_slot image.header.boot_radix i.line ≢ copy_slot
  line-apart is = omega (arith, is, copy-below)

  binds : Binds between (handler_slot image p.signals) i.line copy_slot (offset_of image i.notification) endpoint_rights i.badge
  binds = record {
    inside = let enough = enough-slots image known.formed in rw (same-radix image p) (omega (arith, enough, few));
    handles = capability-same (handler_slot image p.signals) (λ is. omega (arith, is, few))
        ∙ capability-read image p (handler_slot image p.signals) _ (known.boot.handler p.signals i (omega (arith, few, handled)) at);
    copied = rw (same-radix image p) copy-below;
    holds = ap (λ (o : Option Entry). option_map_or (λ e. e.capability) o Empty) here;
    shallow = grandchild-shallow between_slots copy_slot (original_slot image i.notification) (object_at image i.notification).untyped
        (ap (λ (o : Option Entry). option_map_or (λ e. e.parent) o None) here)
        (parent-same (original_slot image i.notification) (λ is. omega (arith, is, less)) ∙ original-parent image p i.notification known all less still)
        (parent-same (object_at image i.notification).untyped (λ is. omega (arith, is, untyped-less image p i.notification known all less))
        ∙ untyped-root image p i.notification known all less);
    writes = refl;
    free = ap (λ c. not (is_empty c)) (capability-same (line_slot (loaded image p).boot_radix i.line) (rw (same-radix image p) line-apart))
        ∙ free-read image p (line_slot (loaded image p).boot_radix i.line) (rw (same-radix image p) (known.empty.binding p.signals i (omega arith) at));
  }

  pub signals-by-one : Leads image before (map Calls (signal_calls image (p.signals, i))) (loaded image (one_signal p))
  signals-by-one =
      let bound = with_slots between (inserted between_slots (line_slot before.boot_radix i.line) (signalled image i) (Some copy_slot)) in
      let mint = loader_call boot_cnode mint_label (copy_slot ∷ 32 ∷ original_slot image i.notification ∷ 32 ∷ 11 ∷ i.badge ∷ []) in
      let bind = loader_call (handler_slot image p.signals) set_notification_label (copy_slot ∷ 32 ∷ []) in
      leads-both image before between (loaded image (one_signal p)) (Calls mint ∷ []) (Calls bind ∷ [])
      (leads-call image before between mint mints)
      (leads-call image between (loaded image (one_signal p)) bind
      (bind-made between (handler_slot image p.signals) i.line copy_slot (offset_of image i.notification) endpoint_rights i.badge shape-between binds
      ∙ ap (λ (t : State). Ok t) (signals-next image p (inserted between_slots (line_slot before.boot_radix i.line) (signalled image i) (Some copy_slot))
      (known.adds.signal i at ∙ ap (λ (n : ℕ). inserted between_slots (line_slot n i.line) (signalled image i) (Some copy_slot)) (sym (same-radix image p))))))
