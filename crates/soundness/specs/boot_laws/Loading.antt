-- The states through which a loader goes: of each section of an image so many entries are loaded.
use Rattle.std.specs.Prelude.{ℕ, ◌==◌, ◌/◌, Bool, false, not, ◌||◌, ◌&&◌, nat_lt, Option, Some, None, option_and_then, List, [], ◌∷◌, ◌++◌, map, filter, find}
use Rattle.std.specs.Prelude.{flat_map, take, length, if◌then◌else◌}
use Rattle.std.specs.Option.{option_map_or}
use Rattle.std.specs.List.{list_any, range_with_len}
use Rattle.model.specs.declared.capabilities.Cap.{Cap}
use Rattle.model.specs.declared.capabilities.Cap.TheVariants.{Empty, Untyped, InterruptControl}
use Rattle.model.specs.declared.entries.UntypedEntry.{UntypedEntry}
use Rattle.model.specs.Capabilities.CapabilityKinds.{is_untyped, with_table_mapping}
use Rattle.model.specs.Capabilities.Slots.{Slots, empty_entry}
use Rattle.model.specs.Images.Described.{Holding, binding_holding, first_some, frame_holding, handler_holding, held_in, holding, is_object_slot, listed_holding}
use Rattle.model.specs.Images.Described.{listed_thread, notification_holding, numbered, thread_holdings}
use Rattle.model.specs.Images.Fills.{filled_byte, fills, is_in_frame}
use Rattle.model.specs.Images.Image.{Image}
use Rattle.model.specs.Images.Places.{control_slot, object_at, offset_of, original_slot, type_at, used_by}
use Rattle.model.specs.Kernel.AddressSpaces.{page_size, region_pages}
use Rattle.model.specs.Kernel.Retype.{first_capability, object}
use Rattle.model.specs.Kernel.State.{State, Object, ThreadObject, boot_area_slots}

-- How many entries of each section are loaded. Interrupts count twice: their handlers come early, and what they signal comes late.
-- Fills count one by one, contents first and then the pages of programs.
pub record Progress : Type 0 where
  pub objects : ℕ
  pub handlers : ℕ
  pub capabilities : ℕ
  pub tables : ℕ
  pub frames : ℕ
  pub fills : ℕ
  pub signals : ℕ
  pub threads : ℕ

-- nothing but untyped memory and interrupt control
abbrev pub nothing_loaded : Progress
nothing_loaded = record { objects = 0; handlers = 0; capabilities = 0; tables = 0; frames = 0; fills = 0; signals = 0; threads = 0 }

abbrev pub all_loaded : Image → Progress
all_loaded image = record {
  objects = image.header.objects;
  handlers = image.header.interrupts;
  capabilities = image.header.capabilities;
  tables = image.header.tables;
  frames = image.header.frames;
  fills = length (fills image);
  signals = image.header.interrupts;
  threads = image.header.threads;
}

-- ---- slots

-- untypeds are used up to the end of their last object so far
abbrev pub untyped_so_far : Image → Progress → ℕ × UntypedEntry → Holding
untyped_so_far image p u = holding u.0 (Untyped (u.1).offset (u.1).bits (used_by (take p.objects image.objects) u.0)) None

abbrev pub table_so_far : Image → Progress → ℕ → Cap → Cap
table_so_far image p number capability =
    option_map_or
    (λ t. with_table_mapping capability (Some (record { root = offset_of image t.root; region = t.address / page_size / region_pages })))
    (find (λ t. t.table == number) (take p.tables image.tables)) capability

abbrev pub original_so_far : Image → Progress → ℕ → Cap
original_so_far image p number =
    table_so_far image p number (option_map_or (λ kind. first_capability kind (offset_of image number)) (type_at image number) Empty)

-- a pool that was moved to the slot that lists it
abbrev pub is_moved : Image → Progress → ℕ → Bool
is_moved image p number =
    is_untyped (original_so_far image p number) && list_any (λ c. c.source == number) (take p.capabilities image.capabilities)

abbrev pub original_holding_so_far : Image → Progress → ℕ → Holding
original_holding_so_far image p number =
    holding (original_slot image number) (original_so_far image p number) (Some (object_at image number).untyped)

abbrev pub originals_so_far : Image → Progress → List Holding
originals_so_far image p =
    map (original_holding_so_far image p) (filter (λ number. not (is_moved image p number)) (range_with_len 0 p.objects))

abbrev pub boot_holdings_so_far : Image → Progress → List Holding
boot_holdings_so_far image p =
    map (untyped_so_far image p) (numbered image.untypeds) ++ originals_so_far image p
    ++ (holding (control_slot image) InterruptControl None ∷ []) ++ map (handler_holding image) (take p.handlers (numbered image.interrupts))
    ++ map (frame_holding image) (take p.frames (numbered image.frames)) ++ map (notification_holding image) (take p.signals (numbered image.interrupts))
    ++ map (binding_holding image) (take p.signals (numbered image.interrupts))

unfoldable pub holdings_so_far : Image → Progress → List Holding
holdings_so_far image p =
    boot_holdings_so_far image p ++ map (listed_holding image) (take p.capabilities image.capabilities)
    ++ flat_map (thread_holdings image) (take p.threads image.threads)

unfoldable pub is_open_so_far : Image → Progress → ℕ → Bool
is_open_so_far image p slot =
    nat_lt slot (boot_area_slots image.header.boot_radix) || list_any (is_object_slot image slot) (range_with_len 0 p.objects)

abbrev pub slots_so_far : Image → Progress → Slots
slots_so_far image p slot =
    if is_open_so_far image p slot then Some (option_map_or (λ held. held) (held_in (holdings_so_far image p) slot) empty_entry) else None

-- ---- objects, bytes, threads

abbrev pub object_so_far : Image → Progress → ℕ → Option Object
object_so_far image p number =
    option_map_or (λ t. Some (ThreadObject (listed_thread t))) (find (λ t. t.header.tcb == number) (take p.threads image.threads))
    (option_and_then object (type_at image number))

abbrev pub objects_so_far : Image → Progress → ℕ → Option Object
objects_so_far image p offset =
    first_some (map (λ number. if offset_of image number == offset then object_so_far image p number else None) (range_with_len 0 p.objects))

unfoldable pub bytes_so_far : Image → Progress → ℕ → Option ℕ
bytes_so_far image p place =
    if list_any (is_in_frame image place) (range_with_len 0 p.objects) then Some (filled_byte (take p.fills (fills image)) place) else None

abbrev pub ready_so_far : Image → Progress → ℕ → List ℕ
ready_so_far image p priority =
    map (λ t. offset_of image t.header.tcb) (filter (λ t. t.header.priority == priority) (take p.threads image.threads))

-- ---- the whole

unfoldable pub loaded : Image → Progress → State
loaded image p = record {
  memory_bits = image.header.memory_bits;
  boot_radix = image.header.boot_radix;
  slots = slots_so_far image p;
  objects = objects_so_far image p;
  bytes = bytes_so_far image p;
  ready = ready_so_far image p;
  masked = λ line. false;
  pending = λ line. false;
}
