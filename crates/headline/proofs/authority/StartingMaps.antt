-- In the described state no slot of a thread's maps a frame: what is mapped there the boot slots map.
use Rattle.std.proofs.Common.{ℕ, ◌≡◌, ◌∙◌, ◌+◌, ◌^◌, ◌<◌, ◌≤◌, inl, inr, true, List, Option, Some, None, refl, sym, ap, subst, arith}
use Rattle.std.specs.Prelude.{Contains}
use Rattle.std.specs.Option.{option_map_or}
use Rattle.std.proofs.lemmas.Option.{none-some, slice_get_within}
use Rattle.format_laws.specs.Fitting.{IsFitting}
use Rattle.format_laws.proofs.Laws.{is-fitting}
use Rattle.soundness.proofs.Laws.{are-formed, boot-slots-suffice, payload-mapping}
use Rattle.thread_spaces.proofs.Laws.{OfSections, capability-shown, each-slot, each-own}
use Rattle.model.specs.declared.capabilities.Cap.{Cap}
use Rattle.model.specs.declared.capabilities.Cap.TheVariants.{Empty}
use Rattle.model.specs.declared.slot_entries.Entry.{Entry}
use Rattle.model.specs.Acceptance.Accepted.{IsAccepted, IsWellFormed}
use Rattle.model.specs.Acceptance.Authority.{IsOwnSlot}
use Rattle.model.specs.Capabilities.CapabilityKinds.{frame_mapping}
use Rattle.model.specs.Capabilities.Slots.{capability_at}
use Rattle.model.specs.Images.Described.{Numbered, described, frame_holding, numbered_threads, original}
use Rattle.model.specs.Images.Image.{Image, whole_image}
use Rattle.model.specs.Images.Places.{boot_slots, frame_copy_slot}
use Rattle.headline.specs.authority.OwnMaps.{AllMapOwn}
use Rattle.headline.proofs.invocations.OtherSlots.{boot-other}
use Rattle.headline.proofs.starts.Laws.{listed-no-frame, original-no-frame}

module _ (image : Image) (fits : whole_image.fits image ≡ true) (well : IsWellFormed image) (t : Numbered) (listed : Contains (numbered_threads image) t) where
  fitting : IsFitting image
  fitting = is-fitting image fits

  enough : boot_slots image ≤ 2 ^ image.header.boot_radix
  enough = boot-slots-suffice image fitting (are-formed image well)

  abbrev MapsNone : ℕ → Entry → Type 0
  MapsNone slot e = IsOwnSlot image t.thread slot → frame_mapping e.capability ≡ None

  in-boot : (slot : ℕ) (c : Cap) → slot < 2 ^ image.header.boot_radix + 64 → IsOwnSlot image t.thread slot → frame_mapping c ≡ None
  in-boot slot c below own = absurd (boot-other image fits well t slot listed (omega (arith, below)) own)

  own-sections : OfSections MapsNone image
  own-sections = record {
    untyped = λ k u at own. refl;
    original = λ number less own. original-no-frame image number;
    control = λ own. refl;
    handler = λ k i at own. refl;
    frame = λ k f at. in-boot (frame_copy_slot image k) ((frame_holding image (k, f)).1.capability) (let less : k < image.header.frames =
        subst (λ (n : ℕ). k < n) (IsFitting.frames fitting) (slice_get_within image.frames k f at) in
        omega (arith, less, enough));
    notification = λ k i at own. refl;
    binding = λ k i at own. refl;
    listed = λ k c at own. listed-no-frame image c;
    thread = λ k u at. each-own MapsNone image u
        (λ own. payload-mapping (original image u.header.cnode) u.header.guard ∙ original-no-frame image u.header.cnode)
        (λ own. original-no-frame image u.header.root) (λ some own. original-no-frame image u.header.buffer);
  }

  starts-none : (slot : ℕ) → IsOwnSlot image t.thread slot → (found : Option Entry) → (described image).slots slot ≡ found
      → frame_mapping (capability_at (described image).slots slot) ≡ None
  starts-none slot own None none = ap (λ (o : Option Entry). frame_mapping (option_map_or (λ e. e.capability) o Empty)) none
  starts-none slot own (Some e) some = ap frame_mapping (capability-shown image slot e some) ∙ elim (each-slot MapsNone image own-sections slot e some) [
    | inl nothing ↦ ap (λ (x : Entry). frame_mapping x.capability) nothing
    | inr none ↦ none own
  ]

pub maps-own-at-start : (bytes : List ℕ) (image : Image) → IsAccepted bytes image → AllMapOwn image (described image)
maps-own-at-start bytes image accepted t listed slot mapping own is =
    absurd (none-some mapping (sym (starts-none image accepted.spelled.fits accepted.formed t listed slot own ((described image).slots slot) refl) ∙ is))
