-- What boot slots hold between two operations of the loader.
use Rattle.std.proofs.Common.{ℕ, ◌≡◌, ◌≢◌, ◌∙◌, ◌+◌, ◌^◌, ◌<◌, ◌≤◌, ◌⊎◌, inl, inr, true, false, not, map, take, [], Option, Some, None, refl, sym, ap, arith}
use Rattle.std.specs.Prelude.{slice_get}
use Rattle.std.proofs.lemmas.Bool.Decides.{eqb_tells}
use Rattle.std.proofs.lemmas.List.{take_all}
use Rattle.std.proofs.lemmas.List.FromFn.{length-enumerate_from}
use Rattle.model.specs.declared.capabilities.Cap.TheVariants.{Frame, InterruptControl, InterruptHandler}
use Rattle.model.specs.declared.slot_entries.Entry.{Entry}
use Rattle.model.specs.Capabilities.Rights.{frame_rights}
use Rattle.model.specs.declared.entries.FrameEntry.{FrameEntry}
use Rattle.model.specs.declared.entries.InterruptEntry.{InterruptEntry}
use Rattle.format_laws.specs.Fitting.{InterruptFits}
use Rattle.format_laws.specs.Fitting.{IsFitting}
use Rattle.soundness.proofs.boot_laws.PlacesObjects.{untyped-at}
use Rattle.soundness.proofs.boot_laws.PlacesRules.{AreFormed, numbered-at}
use Rattle.soundness.proofs.boot_laws.PlacesSlots.{boot-slots-suffice}
use Rattle.soundness.proofs.boot_laws.Readings.{IsWithin, Reads, ReadsBoot, ReadsEmpty, entry, mapping_of}
use Rattle.soundness.proofs.boot_laws.ReadingsLists.{held-here, mapped-at, mapped-none, numbered-back, range-kept, range-none}
use Rattle.soundness.proofs.boot_laws.ReadingsOpen.{open-low, read-open, shown}
use Rattle.soundness.proofs.boot_laws.ReadingsSections.{frames-none, handlers-none, notifications-none, originals-none, read-binding, read-control, read-frame}
use Rattle.soundness.proofs.boot_laws.ReadingsSections.{read-handler, read-notification, read-original, read-untyped}
use Rattle.soundness.specs.boot_laws.Loading.{Progress, holdings_so_far, is_moved, original_holding_so_far, original_so_far, untyped_so_far}
use Rattle.model.specs.Images.Described.{binding_holding, frame_holding, handler_holding, held_in, holding, notification_holding, numbered, signalled}
use Rattle.model.specs.Images.Image.{Image}
use Rattle.model.specs.Images.Places.{control_slot, frame_copy_slot, handler_slot, notification_copy_slot, object_at, offset_of, original_slot, untyped_at}
use Rattle.model.specs.Kernel.State.{line_slot}

module _ (image : Image) (fitting : IsFitting image) (formed : AreFormed image) (p : Progress) (within : IsWithin image p) where
  -- a boot slot and the section that it is read in
  boot-reads : (slot : ℕ) (v : Option Entry) → slot < 2 ^ image.header.boot_radix → held_in (holdings_so_far image p) slot ≡ v → Reads image p slot (shown v)
  boot-reads slot v low held = read-open image p slot v (open-low image p slot (omega (arith, low))) held

  reads-untyped : (number : ℕ) → number < image.header.untypeds → Reads image p number (untyped_so_far image p (number, untyped_at image number)).1
  reads-untyped number less =
      let room = boot-slots-suffice image fitting formed in
      let whole : take image.header.untypeds (numbered image.untypeds) ≡ numbered image.untypeds =
      take_all image.header.untypeds (numbered image.untypeds) (omega (arith, length-enumerate_from 0 image.untypeds, fitting.untypeds)) in
      boot-reads number (Some (untyped_so_far image p (number, untyped_at image number)).1) (omega (arith, less, room))
      (read-untyped image fitting formed p within number less ∙ ap (λ us. held_in (map (untyped_so_far image p) us) number) (sym whole)
      ∙ mapped-at (untyped_so_far image p) (numbered image.untypeds) image.header.untypeds number (number, untyped_at image number) number
      (numbered-at image.untypeds number (untyped_at image number) (untyped-at image number fitting less)) less refl
      (λ j y below at same. let back = (numbered-back image.untypeds j y at).0 in omega (arith, back, same, below)))

  kept-number : (number : ℕ) → is_moved image p number ≡ false → not (is_moved image p number) ≡ true
  kept-number number is = ap not is

  reads-original : (number : ℕ) → number < p.objects → is_moved image p number ≡ false
      → Reads image p (original_slot image number) (entry (original_so_far image p number) (Some (object_at image number).untyped))
  reads-original number less stays =
      let room = boot-slots-suffice image fitting formed in
      let objects = within.objects in
      boot-reads (original_slot image number) (Some (original_holding_so_far image p number).1) (omega (arith, less, objects, room))
      (read-original image fitting formed p within (original_slot image number) (omega arith) (omega (arith, less, objects))
      ∙ range-kept (original_holding_so_far image p) image.header.untypeds (λ n. refl) (λ n. not (is_moved image p n)) 0 p.objects number (omega arith)
      (omega (arith, less)) (kept-number number stays))

  reads-control : Reads image p (control_slot image) (entry InterruptControl None)
  reads-control =
      let room = boot-slots-suffice image fitting formed in
      boot-reads (control_slot image) (Some (entry InterruptControl None)) (omega (arith, room))
      (read-control image fitting formed p within (control_slot image) refl
      ∙ held-here (holding (control_slot image) InterruptControl None) [] (control_slot image) refl)

  handler-keys : (k : ℕ) (j : ℕ) (y : ℕ × InterruptEntry) → j < k → slice_get (numbered image.interrupts) j ≡ Some y →
      (handler_holding image y).0 ≢ handler_slot image k
  handler-keys k j y below at same = let back = (numbered-back image.interrupts j y at).0 in omega (arith, back, same, below)

  reads-handler : (k : ℕ) (i : InterruptEntry) → k < p.handlers → slice_get image.interrupts k ≡ Some i
      → Reads image p (handler_slot image k) (entry (InterruptHandler i.line) (Some (control_slot image)))
  reads-handler k i less at =
      let room = boot-slots-suffice image fitting formed in
      let handlers = within.handlers in
      boot-reads (handler_slot image k) (Some (handler_holding image (k, i)).1) (omega (arith, less, handlers, room))
      (read-handler image fitting formed p within (handler_slot image k) (omega arith) (omega (arith, less, handlers))
      ∙ mapped-at (handler_holding image) (numbered image.interrupts) p.handlers k (k, i) (handler_slot image k) (numbered-at image.interrupts k i at) less refl
      (handler-keys k))

  frame-keys : (k : ℕ) (j : ℕ) (y : ℕ × FrameEntry) → j < k → slice_get (numbered image.frames) j ≡ Some y → (frame_holding image y).0 ≢ frame_copy_slot image k
  frame-keys k j y below at same = let back = (numbered-back image.frames j y at).0 in omega (arith, back, same, below)

  reads-frame : (k : ℕ) (f : FrameEntry) → k < p.frames → slice_get image.frames k ≡ Some f
      → Reads image p (frame_copy_slot image k)
      (entry (Frame (offset_of image f.frame) frame_rights (Some (mapping_of image f))) (Some (original_slot image f.frame)))
  reads-frame k f less at =
      let room = boot-slots-suffice image fitting formed in
      let frames = within.frames in
      boot-reads (frame_copy_slot image k) (Some (frame_holding image (k, f)).1) (omega (arith, less, frames, room))
      (read-frame image fitting formed p within (frame_copy_slot image k) (omega arith) (omega (arith, less, frames))
      ∙ mapped-at (frame_holding image) (numbered image.frames) p.frames k (k, f) (frame_copy_slot image k) (numbered-at image.frames k f at) less refl
      (frame-keys k))

  notification-keys : (k : ℕ) (j : ℕ) (y : ℕ × InterruptEntry) → j < k → slice_get (numbered image.interrupts) j ≡ Some y
      → (notification_holding image y).0 ≢ notification_copy_slot image k
  notification-keys k j y below at same = let back = (numbered-back image.interrupts j y at).0 in omega (arith, back, same, below)

  reads-notification : (k : ℕ) (i : InterruptEntry) → k < p.signals → slice_get image.interrupts k ≡ Some i
      → Reads image p (notification_copy_slot image k) (entry (signalled image i) (Some (original_slot image i.notification)))
  reads-notification k i less at =
      let room = boot-slots-suffice image fitting formed in
      let signals = within.signals in
      boot-reads (notification_copy_slot image k) (Some (notification_holding image (k, i)).1) (omega (arith, less, signals, room))
      (read-notification image fitting formed p within (notification_copy_slot image k) (omega arith) (omega (arith, less, signals))
      ∙ mapped-at (notification_holding image) (numbered image.interrupts) p.signals k (k, i) (notification_copy_slot image k)
      (numbered-at image.interrupts k i at) less refl (notification-keys k))

  binding-keys : (k : ℕ) (i : InterruptEntry) → slice_get image.interrupts k ≡ Some i → (j : ℕ) (y : ℕ × InterruptEntry) → j < k
      → slice_get (numbered image.interrupts) j ≡ Some y → (binding_holding image y).0 ≢ line_slot image.header.boot_radix i.line
  binding-keys k i at j y below there same =
      let back = (numbered-back image.interrupts j y there).1 in
      let rises = fitting.lines_rise j k y.1 i below back at in
      omega (arith, rises, same)

  binding-held : (v : Option Entry) (k : ℕ) (i : InterruptEntry) → slice_get image.interrupts k ≡ Some i
      → held_in (map (binding_holding image) (take p.signals (numbered image.interrupts))) (line_slot image.header.boot_radix i.line) ≡ v
      → Reads image p (line_slot image.header.boot_radix i.line) (shown v)
  binding-held v k i at held =
      let line = InterruptFits.line (fitting.interrupt k i at) in
      read-open image p (line_slot image.header.boot_radix i.line) v (open-low image p (line_slot image.header.boot_radix i.line) (omega (arith, line)))
      (read-binding image fitting formed p within (line_slot image.header.boot_radix i.line) (omega arith) (omega (arith, line)) ∙ held)

  reads-binding : (k : ℕ) (i : InterruptEntry) → k < p.signals → slice_get image.interrupts k ≡ Some i
      → Reads image p (line_slot image.header.boot_radix i.line) (entry (signalled image i) (Some (notification_copy_slot image k)))
  reads-binding k i less at =
      binding-held (Some (binding_holding image (k, i)).1) k i at
      (mapped-at (binding_holding image) (numbered image.interrupts) p.signals k (k, i) (line_slot image.header.boot_radix i.line)
      (numbered-at image.interrupts k i at) less refl (binding-keys k i at))

  pub reads-boot : ReadsBoot image p
  reads-boot = record {
    untyped = reads-untyped;
    original = reads-original;
    control = reads-control;
    handler = reads-handler;
    frame = reads-frame;
    notification = reads-notification;
    binding = reads-binding;
  }

  -- ---- what is still to come

  moved-none : (number : ℕ) → is_moved image p number ≡ true → (n : ℕ) → 0 ≤ n → n < 0 + p.objects
      → (image.header.untypeds + n ≢ original_slot image number) ⊎ (not (is_moved image p n) ≡ false)
  moved-none number is n low high = elim (eqb_tells n number) [
    | inl here ↦ inr (ap (λ (m : ℕ). not (is_moved image p m)) here.1 ∙ ap not is)
    | inr apart ↦ inl (λ same. apart.1 (omega (arith, same)))
  ]

  pub reads-empty : ReadsEmpty image p
  reads-empty =
      let room = boot-slots-suffice image fitting formed in
      record {
        original = λ number above less. boot-reads (original_slot image number) None (omega (arith, less, room))
            (read-original image fitting formed p within (original_slot image number) (omega arith) (omega (arith, less))
            ∙ originals-none image fitting formed p within (original_slot image number) (inr (omega (arith, above))));
        moved = λ number less is. boot-reads (original_slot image number) None (omega (arith, less, room))
            (read-original image fitting formed p within (original_slot image number) (omega arith) (omega (arith, less))
            ∙ range-none (original_holding_so_far image p) image.header.untypeds (λ n. refl) (λ n. not (is_moved image p n)) 0 p.objects
            (original_slot image number) (moved-none number is));
        handler = λ k above less. boot-reads (handler_slot image k) None (omega (arith, less, room))
            (read-handler image fitting formed p within (handler_slot image k) (omega arith) (omega (arith, less))
            ∙ handlers-none image fitting formed p within (handler_slot image k) (inr (omega (arith, above))));
        frame = λ k above less. boot-reads (frame_copy_slot image k) None (omega (arith, less, room))
            (read-frame image fitting formed p within (frame_copy_slot image k) (omega arith) (omega (arith, less))
            ∙ frames-none image fitting formed p within (frame_copy_slot image k) (inr (omega (arith, above))));
        notification = λ k above less. boot-reads (notification_copy_slot image k) None (omega (arith, less, room))
            (read-notification image fitting formed p within (notification_copy_slot image k) (omega arith) (omega (arith, less))
            ∙ notifications-none image fitting formed p within (notification_copy_slot image k) (inr (omega (arith, above))));
        binding = λ k i above at. binding-held None k i at
            (mapped-none (binding_holding image) (numbered image.interrupts) p.signals (line_slot image.header.boot_radix i.line)
            (λ j y below there. binding-keys k i at j y (omega (arith, below, above)) there));
      }
