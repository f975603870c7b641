-- What single slots of the state that a well-formed image describes hold.
use Rattle.std.proofs.Common.{ℕ, ◌≡◌, ◌∙◌, ◌<◌, ◌==◌, true, false, Option, Some, None, refl, sym, ap, subst, arith}
use Rattle.std.specs.Prelude.{slice_get}
use Rattle.std.specs.Option.{option_map_or}
use Rattle.std.proofs.lemmas.Option.{slice_get_within}
use Rattle.format_laws.specs.Fitting.{IsFitting}
use Rattle.format_laws.proofs.Laws.{is-fitting}
use Rattle.soundness.specs.boot_laws.Loading.{all_loaded, loaded}
use Rattle.soundness.proofs.Laws.{AreFormed, IsWithin, ReadsBoot, are-formed, counts-are, described-sound, entry, loaded-end, reads-boot}
use Rattle.soundness.proofs.Laws.{reads-buffer, reads-cspace, reads-listed, reads-no_buffer}
use Rattle.model.specs.declared.capabilities.Cap.{Cap}
use Rattle.model.specs.declared.capabilities.Cap.TheVariants.{Empty}
use Rattle.model.specs.declared.entries.CapabilityEntry.{CapabilityEntry}
use Rattle.model.specs.declared.slot_entries.Entry.{Entry}
use Rattle.model.specs.Acceptance.Accepted.{IsWellFormed}
use Rattle.model.specs.Capabilities.CapabilityKinds.{with_payload}
use Rattle.model.specs.Capabilities.CapabilityWords.{IsCapability}
use Rattle.model.specs.Capabilities.Slots.{capability_at, empty_entry, parent_at}
use Rattle.model.specs.Images.Described.{described, listed_capability, listed_parent, original}
use Rattle.model.specs.Images.Image.{Image, Thread, no_buffer, whole_image}
use Rattle.model.specs.Images.Places.{cnode_slot, offset_of, original_slot}
use Rattle.model.specs.Kernel.State.{State, buffer_slot, cspace_slot}
use Rattle.thread_spaces.specs.Given.{IsEntry, IsListed}

pub all-within : (image : Image) → IsWithin image (all_loaded image)
all-within image = record {
  objects = omega arith;
  handlers = omega arith;
  capabilities = omega arith;
  tables = omega arith;
  frames = omega arith;
  signals = omega arith;
  threads = omega arith;
}

-- what an open slot holds
pub Shows : Image → ℕ → Entry → Type 0
Shows image slot held = (described image).slots slot ≡ Some held

pub from-loaded : (image : Image) (slot : ℕ) (held : Entry) → IsFitting image → (loaded image (all_loaded image)).slots slot ≡ Some held →
    (described image).slots slot ≡ Some held
from-loaded image slot held fitting is = sym (ap (λ (s : State). s.slots slot) (loaded-end image (counts-are image fitting))) ∙ is

pub capability-shown : (image : Image) (slot : ℕ) (held : Entry) → (described image).slots slot ≡ Some held →
    capability_at (described image).slots slot ≡ held.capability
capability-shown image slot held is = ap (λ (o : Option Entry). option_map_or (λ e. e.capability) o Empty) is

pub parent-shown : (image : Image) (slot : ℕ) (held : Entry) → (described image).slots slot ≡ Some held → parent_at (described image).slots slot ≡ held.parent
parent-shown image slot held is = ap (λ (o : Option Entry). option_map_or (λ e. e.parent) o None) is

module _ (image : Image) (fits : whole_image.fits image ≡ true) (well : IsWellFormed image) where
  abbrev fitting : IsFitting image
  fitting = is-fitting image fits

  abbrev formed : AreFormed image
  formed = are-formed image well

  pub boot-holds : ReadsBoot image (all_loaded image)
  boot-holds = reads-boot image (is-fitting image fits) (are-formed image well) (all_loaded image) (all-within image)

  pub listed-shown : (k : ℕ) (c : CapabilityEntry) → slice_get image.capabilities k ≡ Some c
      → (described image).slots (cnode_slot image c.cnode c.index) ≡ Some (entry (listed_capability image c) (Some (listed_parent image c)))
  listed-shown k c at =
      let less : k < image.header.capabilities = subst (λ (n : ℕ). k < n) (IsFitting.capabilities (is-fitting image fits))
      (slice_get_within image.capabilities k c at) in
      from-loaded image (cnode_slot image c.cnode c.index) _ (is-fitting image fits)
      (reads-listed image (is-fitting image fits) (are-formed image well) (all_loaded image) (all-within image) refl k c less at)

  pub root-shown : (k : ℕ) (t : Thread) → slice_get image.threads k ≡ Some t
      → (described image).slots (cspace_slot (offset_of image t.header.tcb)) ≡ Some
      (entry (with_payload (original image t.header.cnode) t.header.guard) (Some (original_slot image t.header.cnode)))
  root-shown k t at =
      let less : k < image.header.threads = subst (λ (n : ℕ). k < n) (IsFitting.threads (is-fitting image fits)) (slice_get_within image.threads k t at) in
      from-loaded image (cspace_slot (offset_of image t.header.tcb)) _ (is-fitting image fits)
      (reads-cspace image (is-fitting image fits) (are-formed image well) (all_loaded image) (all-within image) refl k t less at)

  -- the buffer of a thread that has one
  pub buffer-shown : (k : ℕ) (t : Thread) → slice_get image.threads k ≡ Some t → (t.header.buffer == no_buffer) ≡ false
      → (described image).slots (buffer_slot (offset_of image t.header.tcb)) ≡ Some
      (entry (original image t.header.buffer) (Some (original_slot image t.header.buffer)))
  buffer-shown k t at some =
      let less : k < image.header.threads = subst (λ (n : ℕ). k < n) (IsFitting.threads (is-fitting image fits)) (slice_get_within image.threads k t at) in
      from-loaded image (buffer_slot (offset_of image t.header.tcb)) _ (is-fitting image fits)
      (reads-buffer image (is-fitting image fits) (are-formed image well) (all_loaded image) (all-within image) refl k t less at some)

  pub no_buffer-shown : (k : ℕ) (t : Thread) → slice_get image.threads k ≡ Some t → (t.header.buffer == no_buffer) ≡ true
      → (described image).slots (buffer_slot (offset_of image t.header.tcb)) ≡ Some empty_entry
  no_buffer-shown k t at none =
      from-loaded image (buffer_slot (offset_of image t.header.tcb)) _ (is-fitting image fits)
      (reads-no_buffer image (is-fitting image fits) (are-formed image well) (all_loaded image) (all-within image) refl k t at none)

  valid-at : (slot : ℕ) (held : Entry) → (described image).slots slot ≡ Some held → IsCapability held.capability
  valid-at slot held is =
      subst (λ (c : Cap). IsCapability c) (capability-shown image slot held is) ((described-sound image fits well).slots.derivation.valid slot)

  -- what is listed is valid
  pub listed-valid : (c : CapabilityEntry) → IsEntry image c → IsCapability (listed_capability image c)
  listed-valid c listed = valid-at (cnode_slot image c.cnode c.index) _ (listed-shown listed.number c listed.listed)

  pub root-valid : (t : Thread) → IsListed image t → IsCapability (with_payload (original image t.header.cnode) t.header.guard)
  root-valid t listed = valid-at (cspace_slot (offset_of image t.header.tcb)) _ (root-shown listed.number t listed.listed)
