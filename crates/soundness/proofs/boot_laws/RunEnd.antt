-- Where all entries of all sections are loaded, the state is the one that the image describes.
use Rattle.std.proofs.Common.{ℕ, ◌≡◌, ◌==◌, ◌/◌, ◌&&◌, not, List, [], ◌∷◌, ◌++◌, false, map, filter, find, take, length, Some, None, option_and_then, refl, ap}
use Rattle.std.proofs.Common.{if◌then◌else◌}
use Rattle.std.specs.Prelude.{flat_map}
use Rattle.std.specs.Option.{option_map_or}
use Rattle.std.specs.List.{list_any, range_with_len}
use Rattle.model.specs.declared.capabilities.Cap.TheVariants.{Empty, Untyped, InterruptControl}
use Rattle.model.specs.declared.entries.TableEntry.{TableEntry}
use Rattle.model.specs.Capabilities.CapabilityKinds.{is_untyped, with_table_mapping}
use Rattle.model.specs.Capabilities.Slots.{empty_entry}
use Rattle.model.specs.Images.Described.{binding_holding, boot_holdings, described, first_some, frame_holding, handler_holding, held_in, holding, holdings}
use Rattle.model.specs.Images.Described.{is_open_slot, listed_holding, listed_thread, notification_holding, numbered, original, thread_holdings}
use Rattle.model.specs.Images.Fills.{Fill, described_bytes, filled_byte, fills, is_in_frame}
use Rattle.model.specs.Images.Image.{Image, Thread}
use Rattle.model.specs.Images.Places.{control_slot, object_at, offset_of, original_slot, type_at, used_by}
use Rattle.model.specs.Kernel.AddressSpaces.{page_size, region_pages}
use Rattle.model.specs.Kernel.Retype.{first_capability, object}
use Rattle.model.specs.Kernel.State.{ThreadObject}
use Rattle.soundness.specs.boot_laws.Loading.{all_loaded, bytes_so_far, holdings_so_far, is_open_so_far, loaded, object_so_far, original_so_far}

-- each count says how long its list is
pub record CountsAreLengths (image : Image) : Type 0 where
  pub objects : take image.header.objects image.objects ≡ image.objects
  pub capabilities : take image.header.capabilities image.capabilities ≡ image.capabilities
  pub handlers : take image.header.interrupts (numbered image.interrupts) ≡ numbered image.interrupts
  pub tables : take image.header.tables image.tables ≡ image.tables
  pub frames : take image.header.frames (numbered image.frames) ≡ numbered image.frames
  pub fills : take (length (fills image)) (fills image) ≡ fills image
  pub threads : take image.header.threads image.threads ≡ image.threads

original-end : (image : Image) (counts : CountsAreLengths image) (number : ℕ) → original_so_far image (all_loaded image) number ≡ original image number
original-end image counts number =
    ap (λ (ts : List TableEntry).
    option_map_or (λ t. with_table_mapping (option_map_or (λ kind. first_capability kind (offset_of image number)) (type_at image number) Empty)
    (Some (record { root = offset_of image t.root; region = t.address / page_size / region_pages })))
    (find (λ t. t.table == number) ts) (option_map_or (λ kind. first_capability kind (offset_of image number)) (type_at image number) Empty)) counts.tables

holdings-end : (image : Image) (counts : CountsAreLengths image) → holdings_so_far image (all_loaded image) ≡ holdings image
unfolding holdings_so_far holdings boot_holdings
holdings-end image counts = λ i.
    (map (λ u. holding u.0 (Untyped (u.1).offset (u.1).bits (used_by (counts.objects i) u.0)) None) (numbered image.untypeds)
    ++ map (λ number. holding (original_slot image number) (original-end image counts number i) (Some (object_at image number).untyped))
    (filter (λ number. not (is_untyped (original-end image counts number i) && list_any (λ c. c.source == number) (counts.capabilities i)))
    (range_with_len 0 image.header.objects))
    ++ (holding (control_slot image) InterruptControl None ∷ []) ++ map (handler_holding image) (counts.handlers i)
    ++ map (frame_holding image) (counts.frames i) ++ map (notification_holding image) (counts.handlers i)
    ++ map (binding_holding image) (counts.handlers i))
    ++ map (listed_holding image) (counts.capabilities i) ++ flat_map (thread_holdings image) (counts.threads i)

open-end : (image : Image) (slot : ℕ) → is_open_so_far image (all_loaded image) slot ≡ is_open_slot image slot
unfolding is_open_so_far is_open_slot
open-end image slot = refl

object-end : (image : Image) (counts : CountsAreLengths image) (number : ℕ)
    → object_so_far image (all_loaded image) number ≡ option_map_or (λ t. Some (ThreadObject (listed_thread t)))
    (find (λ t. t.header.tcb == number) image.threads) (option_and_then object (type_at image number))
object-end image counts number =
    ap (λ (ts : List Thread). option_map_or (λ t. Some (ThreadObject (listed_thread t))) (find (λ t. t.header.tcb == number) ts)
    (option_and_then object (type_at image number))) counts.threads

bytes-end : (image : Image) (counts : CountsAreLengths image) (place : ℕ) → bytes_so_far image (all_loaded image) place ≡ described_bytes image place
unfolding bytes_so_far described_bytes
bytes-end image counts place =
    ap (λ (fs : List Fill). if list_any (is_in_frame image place) (range_with_len 0 image.header.objects) then Some (filled_byte fs place) else None)
    counts.fills

pub loaded-end : (image : Image) → CountsAreLengths image → loaded image (all_loaded image) ≡ described image
unfolding loaded described
loaded-end image counts = λ i. record {
  memory_bits = image.header.memory_bits;
  boot_radix = image.header.boot_radix;
  slots = λ slot. if open-end image slot i then Some (option_map_or (λ held. held) (held_in (holdings-end image counts i) slot) empty_entry) else None;
  objects = λ offset. first_some (map (λ number. if offset_of image number == offset then object-end image counts number i else None)
      (range_with_len 0 image.header.objects));
  bytes = λ place. bytes-end image counts place i;
  ready = λ priority. map (λ t. offset_of image t.header.tcb) (filter (λ t. t.header.priority == priority) (counts.threads i));
  masked = λ line. false;
  pending = λ line. false;
}
