-- One interrupt's handler more.
use Rattle.std.proofs.Common.{ℕ, ◌≡◌, ◌∙◌, ◌<◌, ◌≤◌, ◌/◌, ◌^◌, ◌==◌, false, None, Some, Option, Ok, refl, ap, arith}
use Rattle.std.specs.Prelude.{find, slice_get, take}
use Rattle.std.specs.Option.{option_map_or}
use Rattle.std.proofs.lemmas.Bool.{ltb-false, ne_eqb}
use Rattle.model.specs.declared.capabilities.Cap.{Cap}
use Rattle.model.specs.declared.capabilities.Cap.TheVariants.{Empty, Endpoint, Frame, InterruptControl, InterruptHandler, Notification, RootTable, CNode, Tcb}
use Rattle.model.specs.declared.capabilities.Cap.TheVariants.{PageTable, Untyped}
use Rattle.model.specs.declared.capabilities.TableMapping.{TableMapping}
use Rattle.model.specs.declared.entries.InterruptEntry.{InterruptEntry}
use Rattle.model.specs.Capabilities.CapabilityKinds.{is_handler_of, with_table_mapping}
use Rattle.model.specs.Capabilities.Slots.{inserted}
use Rattle.model.specs.Images.Boot.{made}
use Rattle.model.specs.Images.BootCalls.{interrupt_call}
use Rattle.model.specs.Images.Image.{Image}
use Rattle.model.specs.Images.Places.{boot_slots, control_slot, handler_slot, offset_of, type_at}
use Rattle.model.specs.Kernel.AddressSpaces.{page_size, region_pages}
use Rattle.model.specs.Kernel.Retype.{NewObject, NewUntyped, NewThread, NewEndpoint, NewNotification, NewCNode, NewFrame, NewPageTable, NewRootTable}
use Rattle.model.specs.Kernel.Retype.{first_capability}
use Rattle.model.specs.Kernel.State.{State}
use Rattle.soundness.specs.boot_laws.Loading.{Progress, bytes_so_far, holdings_so_far, is_open_so_far, loaded, original_so_far}
use Rattle.soundness.proofs.boot_laws.CallCopies.{Gets, get-made}
use Rattle.soundness.proofs.boot_laws.CallDepths.{root-shallow}
use Rattle.soundness.proofs.boot_laws.CallHeld.{none-held}
use Rattle.soundness.proofs.boot_laws.PhaseHeld.{NoneHolds, none-holds}
use Rattle.soundness.proofs.boot_laws.PhaseStates.{Known, capability-read, parent-read, free-read, handlers-next}
use Rattle.format_laws.specs.Fitting.{IsFitting}
use Rattle.soundness.proofs.boot_laws.PlacesRules.{AreFormed}
use Rattle.soundness.proofs.boot_laws.Readings.{one_handler}

-- boot slots suffice
pub enough-slots : (image : Image) → AreFormed image → boot_slots image ≤ 2 ^ image.header.boot_radix
enough-slots image formed = ltb-false (2 ^ image.header.boot_radix) (boot_slots image) formed.boot_slots

pub same-radix : (image : Image) (p : Progress) → (loaded image p).boot_radix ≡ image.header.boot_radix
unfolding loaded bytes_so_far is_open_so_far holdings_so_far
same-radix image p = refl

no-handler : (n : ℕ) (o : Option NewObject) (offset : ℕ) → is_handler_of n (option_map_or (λ kind. first_capability kind offset) o Empty) ≡ false
no-handler n None offset = refl
no-handler n (Some (NewUntyped bits)) offset = refl
no-handler n (Some NewThread) offset = refl
no-handler n (Some NewEndpoint) offset = refl
no-handler n (Some NewNotification) offset = refl
no-handler n (Some (NewCNode radix)) offset = refl
no-handler n (Some NewFrame) offset = refl
no-handler n (Some NewPageTable) offset = refl
no-handler n (Some NewRootTable) offset = refl

unmapped-handler : (n : ℕ) (c : Cap) (m : Option TableMapping) → is_handler_of n (with_table_mapping c m) ≡ is_handler_of n c
unmapped-handler n Empty m = refl
unmapped-handler n (Untyped a b d) m = refl
unmapped-handler n (Endpoint a r b) m = refl
unmapped-handler n (Notification a r b) m = refl
unmapped-handler n (CNode a r g) m = refl
unmapped-handler n (Frame a r x) m = refl
unmapped-handler n (PageTable a x) m = refl
unmapped-handler n (Tcb a) m = refl
unmapped-handler n (RootTable a) m = refl
unmapped-handler n InterruptControl m = refl
unmapped-handler n (InterruptHandler a) m = refl

original-handler : (image : Image) (p : Progress) (n number : ℕ) → is_handler_of n (original_so_far image p number) ≡ false
original-handler image p n number =
    let first = option_map_or (λ kind. first_capability kind (offset_of image number)) (type_at image number) Empty in
    elim (find (λ t. t.table == number) (take p.tables image.tables)) as
    (λ o. is_handler_of n
    (option_map_or (λ t. with_table_mapping first (Some (record { root = offset_of image t.root; region = t.address / page_size / region_pages }))) o first)
    ≡ false) [
      | None ↦ no-handler n (type_at image number) (offset_of image number)
      | Some t ↦ unmapped-handler n first _ ∙ no-handler n (type_at image number) (offset_of image number)
    ]

-- the handlers so far are those of other lines
none-handles : (image : Image) (p : Progress) (i : InterruptEntry) → IsFitting image → p.capabilities ≡ 0 → p.threads ≡ 0
    → slice_get image.interrupts p.handlers ≡ Some i → NoneHolds image p (is_handler_of i.line)
none-handles image p i fits early none at = record {
  empty = refl;
  untyped = λ u. refl;
  object = λ number less. original-handler image p i.line number;
  control = refl;
  handler = λ k j less there. eqb-other j.line i.line (fits.lines_rise k p.handlers j i less there at);
  frame = λ k f less there. refl;
  signal = λ k j less there. refl;
  listed = λ k c less there. absurd (omega (arith, less, early));
  cspace = λ k t less there. absurd (omega (arith, less, none));
  vspace = λ k t less there. absurd (omega (arith, less, none));
  buffer = λ k t less there. absurd (omega (arith, less, none));
}
  where
    eqb-other : (a b : ℕ) → a < b → (a == b) ≡ false
    eqb-other a b less = ne_eqb a b (λ same. omega (arith, same, less))

pub handlers-by-one : (image : Image) (p : Progress) (i : InterruptEntry) → Known image p → p.handlers < image.header.interrupts → p.capabilities ≡ 0 →
    p.threads ≡ 0
    → slice_get image.interrupts p.handlers ≡ Some i
    → made (loaded image p) (interrupt_call image (p.handlers, i)) ≡ Ok (loaded image (one_handler p))
handlers-by-one image p i known few early none at =
    let s = loaded image p in
    let enough = enough-slots image known.formed in
    let slot = handler_slot image p.handlers in
    let below : slot < 2 ^ image.header.boot_radix = omega (arith, enough, few) in
    let inside : control_slot image < 2 ^ image.header.boot_radix = omega (arith, enough) in
    let asked : Gets s (control_slot image) i.line slot = record {
      inside = rw (same-radix image p) inside;
      holds = capability-read image p (control_slot image) _ known.boot.control;
      shallow = root-shallow s.slots (control_slot image) (parent-read image p (control_slot image) _ known.boot.control);
      small = (known.fits.interrupt p.handlers i at).line;
      new = none-held s (is_handler_of i.line) (none-holds image p (is_handler_of i.line) (none-handles image p i known.fits early none at));
      destination = rw (same-radix image p) below;
      free = free-read image p slot (known.empty.handler p.handlers (omega arith) few);
    } in
    get-made s (control_slot image) i.line slot known.shape asked
    ∙ ap (λ (t : State). Ok t) (handlers-next image p (inserted s.slots slot (InterruptHandler i.line) (Some (control_slot image))) (known.adds.handler i at))
