-- What one handler, one frame or one signal more makes of the slots.
use Rattle.std.proofs.Common.{ℕ, ◌≡◌, ◌≢◌, ◌∙◌, Some, refl, sym, arith}
use Rattle.std.specs.Prelude.{slice_get}
use Rattle.std.proofs.lemmas.Option.{slice_get_within}
use Rattle.model.specs.declared.capabilities.Cap.TheVariants.{Frame, InterruptHandler}
use Rattle.model.specs.declared.entries.FrameEntry.{FrameEntry}
use Rattle.model.specs.declared.entries.InterruptEntry.{InterruptEntry}
use Rattle.format_laws.specs.Fitting.{IsFitting}
use Rattle.soundness.proofs.boot_laws.PlacesRules.{AreFormed, numbered-at}
use Rattle.soundness.proofs.boot_laws.Readings.{AddsBoot, IsWithin, ReadsBoot, entry, mapping_of, one_frame, one_handler, one_signal}
use Rattle.soundness.proofs.boot_laws.ReadingsBoot.{reads-boot}
use Rattle.soundness.proofs.boot_laws.ReadingsLists.{held-in-first, held-in-rest, mapped-more}
use Rattle.soundness.proofs.boot_laws.ReadingsOpen.{one-changes, two-change}
use Rattle.soundness.proofs.boot_laws.ReadingsSections.{bindings_part, frames_part, handlers_part, listed_part, notifications_part, threads_part}
use Rattle.soundness.specs.boot_laws.Loading.{Progress, holdings_so_far}
use Rattle.model.specs.Capabilities.Rights.{frame_rights}
use Rattle.model.specs.Images.Described.{binding_holding, frame_holding, handler_holding, held_in, notification_holding, numbered, signalled}
use Rattle.model.specs.Images.Image.{Image}
use Rattle.model.specs.Images.Places.{control_slot, frame_copy_slot, handler_slot, notification_copy_slot, offset_of, original_slot}
use Rattle.model.specs.Kernel.State.{line_slot}

-- ---- other slots

other-handler : (image : Image) (p : Progress) (i : InterruptEntry) (s : ℕ) → slice_get image.interrupts p.handlers ≡ Some i → s ≢ handler_slot image p.handlers
    → held_in (holdings_so_far image (one_handler p)) s ≡ held_in (holdings_so_far image p) s
unfolding holdings_so_far
other-handler image p i s at other =
    let one = mapped-more (handler_holding image) (numbered image.interrupts) p.handlers (p.handlers, i) s (numbered-at image.interrupts p.handlers i at)
    (λ same. other (sym same)) in
    held-in-first _ _ (threads_part image p) s (held-in-first _ _ (listed_part image p) s (held-in-first _ _ (bindings_part image p) s
    (held-in-first _ _ (notifications_part image p) s
    (held-in-first _ _ (frames_part image p) s (held-in-rest _ (handlers_part image (one_handler p)) (handlers_part image p) s one)))))

other-frame : (image : Image) (p : Progress) (f : FrameEntry) (s : ℕ) → slice_get image.frames p.frames ≡ Some f → s ≢ frame_copy_slot image p.frames
    → held_in (holdings_so_far image (one_frame p)) s ≡ held_in (holdings_so_far image p) s
unfolding holdings_so_far
other-frame image p f s at other =
    let one = mapped-more (frame_holding image) (numbered image.frames) p.frames (p.frames, f) s (numbered-at image.frames p.frames f at)
    (λ same. other (sym same)) in
    held-in-first _ _ (threads_part image p) s (held-in-first _ _ (listed_part image p) s (held-in-first _ _ (bindings_part image p) s
    (held-in-first _ _ (notifications_part image p) s (held-in-rest _ (frames_part image (one_frame p)) (frames_part image p) s one))))

other-signal : (image : Image) (p : Progress) (i : InterruptEntry) (s : ℕ) → slice_get image.interrupts p.signals ≡ Some i →
    s ≢ notification_copy_slot image p.signals
    → s ≢ line_slot image.header.boot_radix i.line → held_in (holdings_so_far image (one_signal p)) s ≡ held_in (holdings_so_far image p) s
unfolding holdings_so_far
other-signal image p i s at one two =
    let there = numbered-at image.interrupts p.signals i at in
    let copy = mapped-more (notification_holding image) (numbered image.interrupts) p.signals (p.signals, i) s there (λ same. one (sym same)) in
    let line = mapped-more (binding_holding image) (numbered image.interrupts) p.signals (p.signals, i) s there (λ same. two (sym same)) in
    held-in-first _ _ (threads_part image p) s (held-in-first _ _ (listed_part image p) s
    (held-in-first _ _ (bindings_part image (one_signal p)) s (held-in-rest _ (notifications_part image (one_signal p)) (notifications_part image p) s copy)
    ∙ held-in-rest _ (bindings_part image (one_signal p)) (bindings_part image p) s line))

-- ---- one more

pub within-handler : (image : Image) (p : Progress) (i : InterruptEntry) → IsFitting image → IsWithin image p → slice_get image.interrupts p.handlers ≡ Some i →
    IsWithin image (one_handler p)
within-handler image p i fitting within at = let less = slice_get_within image.interrupts p.handlers i at in record {
  objects = within.objects;
  handlers = omega (arith, less, fitting.interrupts);
  capabilities = within.capabilities;
  tables = within.tables;
  frames = within.frames;
  signals = within.signals;
  threads = within.threads;
}

pub within-frame : (image : Image) (p : Progress) (f : FrameEntry) → IsFitting image → IsWithin image p → slice_get image.frames p.frames ≡ Some f →
    IsWithin image (one_frame p)
within-frame image p f fitting within at = let less = slice_get_within image.frames p.frames f at in record {
  objects = within.objects;
  handlers = within.handlers;
  capabilities = within.capabilities;
  tables = within.tables;
  frames = omega (arith, less, fitting.frames);
  signals = within.signals;
  threads = within.threads;
}

pub within-signal : (image : Image) (p : Progress) (i : InterruptEntry) → IsFitting image → IsWithin image p → slice_get image.interrupts p.signals ≡ Some i →
    IsWithin image (one_signal p)
within-signal image p i fitting within at = let less = slice_get_within image.interrupts p.signals i at in record {
  objects = within.objects;
  handlers = within.handlers;
  capabilities = within.capabilities;
  tables = within.tables;
  frames = within.frames;
  signals = omega (arith, less, fitting.interrupts);
  threads = within.threads;
}

pub adds-boot : (image : Image) (p : Progress) → IsFitting image → AreFormed image → IsWithin image p → AddsBoot image p
adds-boot image p fitting formed within = record {
  handler = λ i at.
      one-changes image p (one_handler p) (handler_slot image p.handlers) (entry (InterruptHandler i.line) (Some (control_slot image))) refl
      (ReadsBoot.handler (reads-boot image fitting formed (one_handler p) (within-handler image p i fitting within at)) p.handlers i (omega arith) at)
      (λ s other. other-handler image p i s at other);
  frame = λ f at.
      one-changes image p (one_frame p) (frame_copy_slot image p.frames)
      (entry (Frame (offset_of image f.frame) frame_rights (Some (mapping_of image f))) (Some (original_slot image f.frame))) refl
      (ReadsBoot.frame (reads-boot image fitting formed (one_frame p) (within-frame image p f fitting within at)) p.frames f (omega arith) at)
      (λ s other. other-frame image p f s at other);
  signal = λ i at.
      let reads = reads-boot image fitting formed (one_signal p) (within-signal image p i fitting within at) in
      two-change image p (one_signal p) (notification_copy_slot image p.signals) (line_slot image.header.boot_radix i.line)
      (entry (signalled image i) (Some (original_slot image i.notification))) (entry (signalled image i) (Some (notification_copy_slot image p.signals))) refl
      (ReadsBoot.notification reads p.signals i (omega arith) at) (ReadsBoot.binding reads p.signals i (omega arith) at)
      (λ s one two. other-signal image p i s at one two);
}
