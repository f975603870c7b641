-- Between two phases: the state with other slots is the next one, and small facts on slots that are read.
use Rattle.std.proofs.Common.{ℕ, ◌≡◌, false, not, Option, None, sym, ap}
use Rattle.std.specs.Option.{option_map_or}
use Rattle.model.specs.declared.capabilities.Cap.TheVariants.{Empty}
use Rattle.model.specs.declared.slot_entries.Entry.{Entry}
use Rattle.model.specs.Capabilities.Slots.{Slots, capability_at, empty_entry, is_empty, is_full, parent_at}
use Rattle.model.specs.Images.Image.{Image}
use Rattle.model.specs.Kernel.Soundness.{HasShape}
use Rattle.model.specs.Kernel.State.{with_slots}
use Rattle.soundness.specs.boot_laws.Loading.{Progress, bytes_so_far, holdings_so_far, is_open_so_far, loaded}
use Rattle.format_laws.specs.Fitting.{IsFitting}
use Rattle.soundness.proofs.boot_laws.PlacesRules.{AreFormed}
use Rattle.soundness.proofs.boot_laws.Readings.{ReadsBoot, ReadsEmpty, ReadsRoom, ReadsObjects, AddsBoot, AddsRoom, Reads, one_capability, one_frame}
use Rattle.soundness.proofs.boot_laws.Readings.{one_handler, one_signal, one_table, slots_of_loaded}

-- All that is known of a state between two operations.
pub record Known (image : Image) (p : Progress) : Type 0 where
  pub fits : IsFitting image
  pub formed : AreFormed image
  pub shape : HasShape (loaded image p)
  pub boot : ReadsBoot image p
  pub empty : ReadsEmpty image p
  pub room : ReadsRoom image p
  pub objects : ReadsObjects image p
  pub adds : AddsBoot image p
  pub adds_room : AddsRoom image p

-- ---- what is read of a slot

module _ (image : Image) (p : Progress) (slot : ℕ) where
  pub capability-read : (held : Entry) → Reads image p slot held → capability_at (loaded image p).slots slot ≡ held.capability
  capability-read held is = ap (λ (o : Option Entry). option_map_or (λ e. e.capability) o Empty) is

  pub parent-read : (held : Entry) → Reads image p slot held → parent_at (loaded image p).slots slot ≡ held.parent
  parent-read held is = ap (λ (o : Option Entry). option_map_or (λ e. e.parent) o None) is

  pub free-read : Reads image p slot empty_entry → is_full (loaded image p).slots slot ≡ false
  free-read is = ap (λ c. not (is_empty c)) (capability-read empty_entry is)

-- ---- other slots alone

module _ (image : Image) (p : Progress) (slots : Slots) where
  pub handlers-next : slots_of_loaded image (one_handler p) ≡ slots → with_slots (loaded image p) slots ≡ loaded image (one_handler p)
  unfolding loaded bytes_so_far is_open_so_far holdings_so_far
  handlers-next same = ap (λ (t : Slots). with_slots (loaded image p) t) (sym same)

  pub signals-next : slots_of_loaded image (one_signal p) ≡ slots → with_slots (loaded image p) slots ≡ loaded image (one_signal p)
  unfolding loaded bytes_so_far is_open_so_far holdings_so_far
  signals-next same = ap (λ (t : Slots). with_slots (loaded image p) t) (sym same)

  pub frames-next : slots_of_loaded image (one_frame p) ≡ slots → with_slots (loaded image p) slots ≡ loaded image (one_frame p)
  unfolding loaded bytes_so_far is_open_so_far holdings_so_far
  frames-next same = ap (λ (t : Slots). with_slots (loaded image p) t) (sym same)

  pub tables-next : slots_of_loaded image (one_table p) ≡ slots → with_slots (loaded image p) slots ≡ loaded image (one_table p)
  unfolding loaded bytes_so_far is_open_so_far holdings_so_far
  tables-next same = ap (λ (t : Slots). with_slots (loaded image p) t) (sym same)

  pub capabilities-next : slots_of_loaded image (one_capability p) ≡ slots → with_slots (loaded image p) slots ≡ loaded image (one_capability p)
  unfolding loaded bytes_so_far is_open_so_far holdings_so_far
  capabilities-next same = ap (λ (t : Slots). with_slots (loaded image p) t) (sym same)
