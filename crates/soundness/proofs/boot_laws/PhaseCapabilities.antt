-- One listed capability more: a copy of its source, or a pool that is moved.
use Rattle.std.proofs.Common.{ℕ, ◌≡◌, ◌∙◌, ◌==◌, ◌<◌, ◌≤◌, ◌^◌, ◌&&◌, true, false, nat_lt, if◌then◌else◌, None, Some, Option, Ok, [], ◌∷◌, ◌++◌, get_or, refl}
use Rattle.std.proofs.Common.{sym, ap, subst, arith}
use Rattle.std.specs.Prelude.{slice_get, bit_and}
use Rattle.std.specs.Option.{option_map_or}
use Rattle.std.proofs.Math.Bool.{and-false}
use Rattle.std.proofs.lemmas.Bool.{and_parts, eqb-true, ltb-true, leb-true, leb-false}
use Rattle.std.proofs.lemmas.Nat.{and_comm}
use Rattle.std.proofs.lemmas.Option.{same_Some, slice_get-get_or}
use Rattle.model.specs.declared.capabilities.Cap.{Cap}
use Rattle.model.specs.declared.capabilities.Cap.TheVariants.{Empty, CNode, Endpoint, Frame, InterruptHandler, Notification}
use Rattle.model.specs.declared.capabilities.TableMapping.{TableMapping}
use Rattle.model.specs.declared.entries.CapabilityEntry.{CapabilityEntry}
use Rattle.model.specs.declared.entries.InterruptEntry.{InterruptEntry}
use Rattle.model.specs.Acceptance.WellFormed.{has_slot, is_listed_before, is_table_type, is_thread_type, is_untyped_type, may_have, radix_of, source_type}
use Rattle.model.specs.Capabilities.CapabilityKinds.{copied, is_untyped, with_payload, with_table_mapping}
use Rattle.model.specs.Capabilities.Rights.{rights}
use Rattle.model.specs.Capabilities.Slots.{inserted, is_empty, relocated}
use Rattle.model.specs.Images.Boot.{made}
use Rattle.model.specs.Images.BootCalls.{capability_call, listed_arguments, loader_call}
use Rattle.model.specs.Images.Described.{limited, listed_capability, original}
use Rattle.model.specs.Images.Image.{Image}
use Rattle.model.specs.Images.Places.{cnode_slot, control_slot, handler_slot, interrupt_of, is_handler, object_at, offset_of, original_slot, source_boot_slot}
use Rattle.model.specs.Images.Places.{type_at}
use Rattle.model.specs.Kernel.CallForms.{mint_label, move_label}
use Rattle.model.specs.Kernel.Retype.{NewObject, NewUntyped, NewThread, NewEndpoint, NewNotification, NewCNode, NewFrame, NewPageTable, NewRootTable}
use Rattle.model.specs.Kernel.Retype.{first_capability, is_large_enough, is_small_enough, type_of}
use Rattle.model.specs.Kernel.State.{State, with_slots}
use Rattle.soundness.specs.boot_laws.Loading.{Progress, is_moved, loaded, original_so_far}
use Rattle.soundness.proofs.boot_laws.CallCopies.{IsDestination, IsSource, MayBeMinted, mint-made, move-made}
use Rattle.soundness.proofs.boot_laws.CallDepths.{child-shallow}
use Rattle.soundness.proofs.boot_laws.CallOriginals.{cnode-type, original-described, original-loaded, stays}
use Rattle.soundness.proofs.boot_laws.PhaseHandlers.{enough-slots, same-radix}
use Rattle.soundness.proofs.boot_laws.PhaseSources.{original-source}
use Rattle.soundness.proofs.boot_laws.PhaseStates.{Known, capabilities-next, capability-read, free-read, parent-read}
use Rattle.format_laws.specs.Fitting.{CapabilityFits}
use Rattle.soundness.proofs.boot_laws.PlacesRules.{CapabilityKept}
use Rattle.soundness.proofs.boot_laws.PlacesTypes.{HasType, has-type}
use Rattle.soundness.proofs.boot_laws.Readings.{one_capability}

-- ---- CNodes

-- a CNode's size is its radix
sized : (kind size radix : ℕ) → type_of kind size ≡ Some (NewCNode radix) → size ≡ radix
sized kind size radix is =
    elim (kind == 1) as (λ b. (if b then Some (NewUntyped size) else if kind == 2 then Some NewThread else if kind == 3 then Some NewEndpoint else
    if kind == 4 then Some NewNotification else if kind == 5 then Some (NewCNode size) else
    if kind == 6 then Some NewFrame else if kind == 7 then Some NewPageTable else if kind == 8 then Some NewRootTable else None) ≡ Some (NewCNode radix) →
    size ≡ radix) [
      | true ↦ λ e. absurd cc
      | false ↦ elim (kind == 2)
          as (λ b. (if b then Some NewThread else if kind == 3 then Some NewEndpoint else if kind == 4 then Some NewNotification else if kind == 5 then
          Some (NewCNode size) else
          if kind == 6 then Some NewFrame else if kind == 7 then Some NewPageTable else if kind == 8 then Some NewRootTable else None) ≡ Some (NewCNode radix) →
          size ≡ radix) [
            | true ↦ λ e. absurd cc
            | false ↦ elim (kind == 3)
                as (λ b. (if b then Some NewEndpoint else if kind == 4 then Some NewNotification else if kind == 5 then Some (NewCNode size) else
                if kind == 6 then Some NewFrame else if kind == 7 then Some NewPageTable else if kind == 8 then Some NewRootTable else None) ≡ Some
                (NewCNode radix) → size ≡ radix) [
                  | true ↦ λ e. absurd cc
                  | false ↦ elim (kind == 4) as (λ b. (if b then Some NewNotification else if kind == 5 then Some (NewCNode size) else
                      if kind == 6 then Some NewFrame else if kind == 7 then Some NewPageTable else if kind == 8 then Some NewRootTable else None) ≡ Some
                      (NewCNode radix) → size ≡ radix) [
                        | true ↦ λ e. absurd cc
                        | false ↦ elim (kind == 5) as (λ b. (if b then Some (NewCNode size) else
                            if kind == 6 then Some NewFrame else if kind == 7 then Some NewPageTable else if kind == 8 then Some NewRootTable else None) ≡ Some
                            (NewCNode radix) → size ≡ radix) [
                              | true ↦ λ e. cc
                              | false ↦ elim (kind == 6)
                                  as (λ b. (if b then Some NewFrame else if kind == 7 then Some NewPageTable else if kind == 8 then Some NewRootTable else None)
                                  ≡ Some (NewCNode radix) → size ≡ radix) [
                                    | true ↦ λ e. absurd cc
                                    | false ↦ elim (kind == 7)
                                        as (λ b. (if b then Some NewPageTable else if kind == 8 then Some NewRootTable else None) ≡ Some (NewCNode radix) →
                                        size ≡ radix) [
                                          | true ↦ λ e. absurd cc
                                          | false ↦ elim (kind == 8) as (λ b. (if b then Some NewRootTable else None) ≡ Some (NewCNode radix) → size ≡ radix)
                                              [ true ↦ λ e. absurd cc | false ↦ λ e. absurd cc ]
                                        ]
                                  ]
                            ]
                      ]
                ]
          ]
    ] is

-- the CNode's original, by the type of the object
destination : (image : Image) (p : Progress) (c : CapabilityEntry) (known : Known image p) → p.objects ≡ image.header.objects → c.cnode < image.header.objects
    → has_slot image c.cnode c.index ≡ true → slice_get image.capabilities p.capabilities ≡ Some c
    → IsDestination (loaded image p) (original_slot image c.cnode) (offset_of image c.cnode) (object_at image c.cnode).size c.index
destination image p c known all less slot at = elim (radix_of (type_at image c.cnode))
    as (λ o. radix_of (type_at image c.cnode) ≡ o → option_map_or (λ radix. nat_lt c.index (2 ^ radix)) o false ≡ true
    → IsDestination (loaded image p) (original_slot image c.cnode) (offset_of image c.cnode) (object_at image c.cnode).size c.index) [
      | None ↦ λ none is. absurd cc
      | Some radix ↦ λ some is.
          let kind : type_at image c.cnode ≡ Some (NewCNode radix) = cnode-type (type_at image c.cnode) radix some in
          let size : (object_at image c.cnode).size ≡ radix = sized (object_at image c.cnode).kind (object_at image c.cnode).size radix kind in
          let held : original_so_far image p c.cnode ≡ CNode (offset_of image c.cnode) radix 0 =
          original-loaded image c.cnode (NewCNode radix) kind (λ m. refl) p in
          let source = original-source image p c.cnode known all less (stays image c.cnode (NewCNode radix) kind (λ m. refl) p refl) in
          let typed = has-type image c.cnode known.fits less in
          let same : HasType.kind typed ≡ NewCNode radix = same_Some (HasType.kind typed) (NewCNode radix) (sym (HasType.is typed) ∙ kind) in
          let limits : (1 ≤ radix) × (radix ≤ 14) = (
            leb-true 1 radix (ap is_large_enough (sym same) ∙ HasType.large typed),
            leb-true radix 14 (ap is_small_enough (sym same) ∙ HasType.small typed),
          ) in
          record {
            inside = source.inside;
            holds = source.holds ∙ held ∙ ap (λ (n : ℕ). CNode (offset_of image c.cnode) n 0) (sym size);
            least = omega (arith, size, limits.0);
            most = omega (arith, size, limits.1);
            below = subst (λ (n : ℕ). c.index < 2 ^ n) (sym size) (ltb-true c.index (2 ^ radix) is);
            free = free-read image p (cnode_slot image c.cnode c.index) (known.room.listed p.capabilities c (omega arith) at);
          }
    ] refl slot

-- ---- what may be minted

same-rights : (all bits : ℕ) → (bit_and bits all == bits) ≡ true → bit_and all bits ≡ bits
same-rights all bits among = and_comm all bits ∙ eqb-true (bit_and bits all) bits among

pub record Minted (capability : Cap) (bits payload : ℕ) : Type 0 where
  pub may : MayBeMinted capability payload
  pub same : with_payload (copied capability bits) payload ≡ limited capability bits payload

minted-kind : (kind : NewObject) (offset bits payload : ℕ) → is_untyped_type (Some kind) ≡ false → is_thread_type (Some kind) ≡ false →
    is_table_type (Some kind) ≡ false
    → may_have (Some kind) bits payload ≡ true → Minted (first_capability kind offset) bits payload
minted-kind (NewUntyped size) offset bits payload u t b may = absurd cc
minted-kind NewThread offset bits payload u t b may = absurd cc
minted-kind NewPageTable offset bits payload u t b may = absurd cc
minted-kind NewEndpoint offset bits payload u t b may =
    let parts = and_parts _ _ may in
    record {
      may = record { some = refl; shared = refl; plain = refl; badge = parts.1; guard = refl };
      same = ap (λ (n : ℕ). Endpoint offset (rights n) payload) (same-rights 11 bits parts.0);
    }
minted-kind NewNotification offset bits payload u t b may =
    let parts = and_parts _ _ may in
    record {
      may = record { some = refl; shared = refl; plain = refl; badge = parts.1; guard = refl };
      same = ap (λ (n : ℕ). Notification offset (rights n) payload) (same-rights 11 bits parts.0);
    }
minted-kind (NewCNode radix) offset bits payload u t b may =
    let parts = and_parts _ _ may in
    record {
      may = record { some = refl; shared = refl; plain = refl; badge = refl; guard = parts.1 };
      same = refl;
    }
minted-kind NewFrame offset bits payload u t b may =
    let parts = and_parts _ _ may in
    record {
      may = record { some = refl; shared = refl; plain = refl; badge = refl; guard = refl };
      same = ap (λ (n : ℕ). Frame offset (rights n) None) (same-rights 3 bits parts.0);
    }
minted-kind NewRootTable offset bits payload u t b may = record {
  may = record { some = refl; shared = refl; plain = refl; badge = refl; guard = refl };
  same = refl;
}

-- only page tables are mapped
unmapped-kind : (kind : NewObject) (offset : ℕ) → is_table_type (Some kind) ≡ false → (m : Option TableMapping) →
    with_table_mapping (first_capability kind offset) m ≡ first_capability kind offset
unmapped-kind (NewUntyped size) offset b m = refl
unmapped-kind NewThread offset b m = refl
unmapped-kind NewPageTable offset b m = absurd cc
unmapped-kind NewEndpoint offset b m = refl
unmapped-kind NewNotification offset b m = refl
unmapped-kind (NewCNode radix) offset b m = refl
unmapped-kind NewFrame offset b m = refl
unmapped-kind NewRootTable offset b m = refl

plain-kind : (kind : NewObject) (offset : ℕ) → is_untyped_type (Some kind) ≡ false → is_untyped (first_capability kind offset) ≡ false
plain-kind (NewUntyped size) offset u = absurd cc
plain-kind NewThread offset u = refl
plain-kind NewPageTable offset u = refl
plain-kind NewEndpoint offset u = refl
plain-kind NewNotification offset u = refl
plain-kind (NewCNode radix) offset u = refl
plain-kind NewFrame offset u = refl
plain-kind NewRootTable offset u = refl

-- ---- the source of a capability that is minted

pub record Source (image : Image) (p : Progress) (c : CapabilityEntry) : Type 0 where
  pub capability : Cap
  pub from : IsSource (loaded image p) (source_boot_slot image c.source) capability
  pub may : MayBeMinted capability c.payload
  pub same : with_payload (copied capability c.rights) c.payload ≡ listed_capability image c

module _ (image : Image) (p : Progress) (c : CapabilityEntry) (known : Known image p) (all : p.objects ≡ image.header.objects)
    (handled : p.handlers ≡ image.header.interrupts)
    (fit : CapabilityFits image c) (kept : CapabilityKept image p.capabilities c) (plain : is_untyped_type (source_type image c.source) ≡ false) where
  object-source : is_handler image c.source ≡ false → Source image p c
  object-source object_one =
      let less : c.source < image.header.objects = leb-false image.header.objects c.source object_one in
      let typed = has-type image c.source known.fits less in
      let kind = HasType.kind typed in
      let is : type_at image c.source ≡ Some kind = HasType.is typed in
      let source_is : source_type image c.source ≡ Some kind = ap (λ b. if b then None else type_at image c.source) object_one ∙ is in
      let other = ap is_untyped_type (sym source_is) ∙ plain in
      let unmapped = unmapped-kind kind (offset_of image c.source) (ap is_table_type (sym source_is) ∙ kept.no_table) in
      let may = minted-kind kind (offset_of image c.source) c.rights c.payload other (ap is_thread_type (sym source_is) ∙ kept.no_thread)
      (ap is_table_type (sym source_is) ∙ kept.no_table)
      (ap (λ o. may_have o c.rights c.payload) (sym source_is) ∙ kept.held) in
      let held = original-loaded image c.source kind is unmapped p in
      let still = stays image c.source kind is unmapped p (plain-kind kind (offset_of image c.source) other) in
      let source = original-source image p c.source known all less still in
      let slot : source_boot_slot image c.source ≡ original_slot image c.source =
      ap (λ b. if b then handler_slot image (interrupt_of image c.source) else original_slot image c.source) object_one in
      record {
        capability = first_capability kind (offset_of image c.source);
        from = subst (λ (n : ℕ). IsSource (loaded image p) n (first_capability kind (offset_of image c.source))) (sym slot)
            (record { inside = source.inside; holds = source.holds ∙ held; shallow = source.shallow });
        may = Minted.may may;
        same = Minted.same may ∙ ap (λ k. limited k c.rights c.payload)
            (sym (ap (λ b. if b then option_map_or (λ i. InterruptHandler i.line) (slice_get image.interrupts (interrupt_of image c.source)) Empty else
            original image c.source) object_one ∙ original-described image c.source kind is unmapped));
      }

  handler-source : is_handler image c.source ≡ true → Source image p c
  handler-source handler_one =
      let k = interrupt_of image c.source in
      let high : image.header.objects ≤ c.source = leb-true image.header.objects c.source handler_one in
      let few : k < image.header.interrupts = omega (arith, fit.source, high) in
      let any : InterruptEntry = record { line = 0; notification = 0; badge = 0 } in
      let i = get_or image.interrupts k any in
      let at : slice_get image.interrupts k ≡ Some i = slice_get-get_or image.interrupts k any (omega (arith, few, known.fits.interrupts)) in
      let enough = enough-slots image known.formed in
      let read = known.boot.handler k i (omega (arith, few, handled)) at in
      let source_is : source_type image c.source ≡ None = ap (λ b. if b then None else type_at image c.source) handler_one in
      let nothing = and_parts (c.rights == 0) (c.payload == 0) (ap (λ o. may_have o c.rights c.payload) (sym source_is) ∙ kept.held) in
      let slot : source_boot_slot image c.source ≡ handler_slot image k =
      ap (λ b. if b then handler_slot image k else original_slot image c.source) handler_one in
      let from : IsSource (loaded image p) (handler_slot image k) (InterruptHandler i.line) = record {
        inside = rw (same-radix image p) (omega (arith, enough, few));
        holds = capability-read image p (handler_slot image k) _ read;
        shallow = child-shallow (loaded image p).slots (handler_slot image k) (control_slot image) (parent-read image p (handler_slot image k) _ read)
            (parent-read image p (control_slot image) _ known.boot.control);
      } in
      record {
        capability = InterruptHandler i.line;
        from = subst (λ (n : ℕ). IsSource (loaded image p) n (InterruptHandler i.line)) (sym slot) from;
        may = record { some = refl; shared = refl; plain = refl; badge = refl; guard = refl };
        same = ap (λ k. limited k c.rights c.payload)
            (sym (ap (λ b. if b then option_map_or (λ i. InterruptHandler i.line) (slice_get image.interrupts (interrupt_of image c.source)) Empty else
            original image c.source) handler_one
            ∙ ap (λ (o : Option InterruptEntry). option_map_or (λ i. InterruptHandler i.line) o Empty) at));
      }

  minted-source : Source image p c
  minted-source = elim (is_handler image c.source) as (λ b. is_handler image c.source ≡ b → Source image p c) [ true ↦ handler-source | false ↦ object-source ]
      refl

-- ---- one capability more

capability-minted : (image : Image) (p : Progress) (c : CapabilityEntry) → Known image p → p.objects ≡ image.header.objects →
    p.handlers ≡ image.header.interrupts
    → slice_get image.capabilities p.capabilities ≡ Some c → is_untyped_type (source_type image c.source) ≡ false
    → made (loaded image p) (capability_call image c) ≡ Ok (loaded image (one_capability p))
capability-minted image p c known all handled at plain =
    let fit = known.fits.capability p.capabilities c at in
    let kept = known.formed.capability p.capabilities c at in
    let source = minted-source image p c known all handled fit kept plain in
    let words = listed_arguments image c in
    ap (λ b. made (loaded image p) (if b then loader_call (original_slot image c.cnode) move_label words else
    loader_call (original_slot image c.cnode) mint_label (words ++ c.rights ∷ c.payload ∷ []))) plain
    ∙ mint-made (loaded image p) (original_slot image c.cnode) (offset_of image c.cnode) (object_at image c.cnode).size c.index
    (source_boot_slot image c.source)
    (Source.capability source) known.shape
    (destination image p c known all fit.cnode kept.slot at) (Source.from source) c.rights c.payload (Source.may source)
    ∙ ap (λ (k : Cap). Ok
    (with_slots (loaded image p) (inserted (loaded image p).slots (cnode_slot image c.cnode c.index) k (Some (source_boot_slot image c.source)))))
    (Source.same source)
    ∙ ap (λ (t : State). Ok t)
    (capabilities-next image p (inserted (loaded image p).slots (cnode_slot image c.cnode c.index) (listed_capability image c)
    (Some (source_boot_slot image c.source))) (known.adds_room.listed c at plain))

-- a pool is untyped memory that was not moved before
pool-moved : (image : Image) (p : Progress) (c : CapabilityEntry) → Known image p → p.objects ≡ image.header.objects
    → slice_get image.capabilities p.capabilities ≡ Some c → is_untyped_type (source_type image c.source) ≡ true
    → made (loaded image p) (capability_call image c) ≡ Ok (loaded image (one_capability p))
pool-moved image p c known all at pool =
    let fit = known.fits.capability p.capabilities c at in
    let kept = known.formed.capability p.capabilities c at in
    let object_one : is_handler image c.source ≡ false = elim (is_handler image c.source)
    as (λ b. is_untyped_type (if b then None else type_at image c.source) ≡ true → b ≡ false) [ true ↦ λ e. absurd cc | false ↦ λ e. refl ] pool in
    let less : c.source < image.header.objects = leb-false image.header.objects c.source object_one in
    let is_pool : is_untyped_type (type_at image c.source) ≡ true = ap (λ b. is_untyped_type (if b then None else type_at image c.source)) (sym object_one)
    ∙ pool in
    let unlisted : is_listed_before image p.capabilities c.source ≡ false = ap (λ b. b && is_listed_before image p.capabilities c.source) (sym pool)
    ∙ kept.once in
    let still : is_moved image p c.source ≡ false = ap (λ b. is_untyped (original_so_far image p c.source) && b) unlisted
    ∙ and-false (is_untyped (original_so_far image p c.source)) in
    let source = original-source image p c.source known all less still in
    let slot : source_boot_slot image c.source ≡ original_slot image c.source =
    ap (λ b. if b then handler_slot image (interrupt_of image c.source) else original_slot image c.source) object_one in
    let words = listed_arguments image c in
    ap (λ b. made (loaded image p) (if b then loader_call (original_slot image c.cnode) move_label words else
    loader_call (original_slot image c.cnode) mint_label (words ++ c.rights ∷ c.payload ∷ []))) pool
    ∙ move-made (loaded image p) (original_slot image c.cnode) (offset_of image c.cnode) (object_at image c.cnode).size c.index
    (source_boot_slot image c.source)
    (original_so_far image p c.source) known.shape
    (destination image p c known all fit.cnode kept.slot at)
    (subst (λ (n : ℕ). IsSource (loaded image p) n (original_so_far image p c.source)) (sym slot) source) (some-original image p c.source is_pool)
    ∙ ap (λ (n : ℕ). Ok (with_slots (loaded image p) (relocated (loaded image p).slots n (cnode_slot image c.cnode c.index)))) slot
    ∙ ap (λ (t : State). Ok t) (capabilities-next image p (relocated (loaded image p).slots (original_slot image c.source) (cnode_slot image c.cnode c.index))
    (known.adds_room.pool c at pool))
  where
    some-original : (image : Image) (p : Progress) (number : ℕ) → is_untyped_type (type_at image number) ≡ true →
        is_empty (original_so_far image p number) ≡ false
    some-original image p number is = elim (type_at image number)
        as (λ o. type_at image number ≡ o → is_untyped_type o ≡ true → is_empty (original_so_far image p number) ≡ false) [
          | None ↦ λ at e. absurd cc
          | Some kind ↦ λ at e. elim kind as (λ k. type_at image number ≡ Some k → is_untyped_type (Some k) ≡ true →
              is_empty (original_so_far image p number) ≡ false) [
                | NewUntyped size ↦ λ at f. ap is_empty (original-loaded image number (NewUntyped size) at (λ m. refl) p)
                | NewThread ↦ λ at f. absurd cc
                | NewEndpoint ↦ λ at f. absurd cc
                | NewNotification ↦ λ at f. absurd cc
                | NewCNode radix ↦ λ at f. absurd cc
                | NewFrame ↦ λ at f. absurd cc
                | NewPageTable ↦ λ at f. absurd cc
                | NewRootTable ↦ λ at f. absurd cc
              ] at e
        ] refl is

pub capabilities-by-one : (image : Image) (p : Progress) (c : CapabilityEntry) → Known image p → p.objects ≡ image.header.objects →
    p.handlers ≡ image.header.interrupts
    → slice_get image.capabilities p.capabilities ≡ Some c → made (loaded image p) (capability_call image c) ≡ Ok (loaded image (one_capability p))
capabilities-by-one image p c known all handled at =
    elim (is_untyped_type (source_type image c.source)) as (λ b. is_untyped_type (source_type image c.source) ≡ b →
    made (loaded image p) (capability_call image c) ≡ Ok (loaded image (one_capability p))) [
      | true ↦ λ pool. pool-moved image p c known all at pool
      | false ↦ λ plain. capability-minted image p c known all handled at plain
    ] refl
