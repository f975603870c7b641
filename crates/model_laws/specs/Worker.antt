-- A thread with a pool: untyped memory of 2^13 bytes in slot 1 of its CNode, the CNode in slot 2, its root table in slot 3,
-- and an endpoint that it may send to in slot 5.
use Rattle.std.specs.Prelude.{ℕ, ◌+◌, ◌*◌, pos, Option, Some, None, Result, Ok, Err, List, [], ◌∷◌, ◌++◌, fold, length, map, slice_set}
use Rattle.std.specs.List.{range_with_len}
use Rattle.model.specs.declared.capabilities.Cap.{Cap}
use Rattle.model.specs.declared.entries.RangeEntry.{RangeEntry}
use Rattle.model.specs.declared.entries.SlotEntry.{SlotEntry}
use Rattle.model.specs.declared.labels.Label.{Label}
use Rattle.model.specs.declared.labels.Label.TheVariants.{Idle, Ran}
use Rattle.model.specs.declared.labels.Outcome.{Outcome}
use Rattle.model.specs.declared.labels.Outcome.TheVariants.{Completed, Plain, Waited}
use Rattle.model.specs.declared.refusals.Refusal.{Refusal}
use Rattle.model.specs.Acceptance.CallRules.{AfterCall, after_call}
use Rattle.model.specs.Images.Format.{reading}
use Rattle.model.specs.Images.Image.{Image, StateRecord, Thread, no_parent, whole_image, no_buffer}
use Rattle.model.specs.Acceptance.Measures.{register_numbered}
use Rattle.model.specs.Acceptance.NotedStates.{NotedSlot, PointState, SlotKey, full_ranges, image_slots}
use Rattle.model.specs.Acceptance.Ranges.{single, with_range}
use Rattle.model_laws.specs.Solo.{at_point}

abbrev pub worker_thread : Thread
worker_thread = record {
  header = record {
    tcb = 3;
    cnode = 4;
    guard = 28;
    root = 1;
    priority = 100;
    budget = 1;
    fault = 0;
    buffer = no_buffer;
    entry = 0;
    base = 0x1000;
    registers = 0;
    words = 1;
    records = 0;
  };
  registers = [];
  words = 0x73 ∷ [];
  records = [];
}

-- the objects: code, root table, page table, thread, CNode, pool, endpoint
abbrev pub worker_image : Image
worker_image = record {
  header = record {
    version = 1;
    memory_bits = 16;
    boot_radix = 4;
    untypeds = 1;
    objects = 7;
    capabilities = 4;
    interrupts = 0;
    tables = 1;
    frames = 1;
    contents = 0;
    promises = 0;
    threads = 1;
  };
  untypeds = record { offset = 0x8000; bits = 15 } ∷ [];
  objects =
      record { untyped = 0; kind = 6; size = 0 } ∷ record { untyped = 0; kind = 8; size = 0 } ∷ record { untyped = 0; kind = 7; size = 0 }
      ∷ record { untyped = 0; kind = 2; size = 0 } ∷ record { untyped = 0; kind = 5; size = 4 } ∷ record { untyped = 0; kind = 1; size = 13 }
      ∷ record { untyped = 0; kind = 3; size = 0 } ∷ [];
  capabilities =
      record { cnode = 4; index = 1; source = 5; rights = 0; payload = 0 } ∷ record { cnode = 4; index = 2; source = 4; rights = 0; payload = 28 }
      ∷ record { cnode = 4; index = 3; source = 1; rights = 0; payload = 0 } ∷ record { cnode = 4; index = 5; source = 6; rights = 1; payload = 0 } ∷ [];
  interrupts = [];
  tables = record { root = 1; address = 0; table = 2 } ∷ [];
  frames = record { root = 1; address = 0x1000; frame = 0; rights = 4 } ∷ [];
  contents = [];
  promises = [];
  threads = worker_thread ∷ [];
}

abbrev pub slot_in : ℕ → Cap → Option SlotKey → NotedSlot
slot_in index capability parent = record { key = record { cnode = 4; index = index }; capability = capability; parent = parent }

abbrev pub key : ℕ → SlotKey
key index = record { cnode = 4; index = index }

-- a point where these registers have one value each, and the slots are these
abbrev pub state_with : List (ℕ × ℕ) → List NotedSlot → PointState
state_with known slots = record {
  ranges = fold (λ ranges x. with_range ranges (register_numbered x.0) (single x.1)) full_ranges known;
  slots = slots;
  measure = record { constant = pos 1; terms = [] };
}

-- Send of a message to the slot at an address: info, and words in a2 to a5 and s2 to s5
abbrev pub sends : ℕ → ℕ → List (ℕ × ℕ) → List (ℕ × ℕ)
sends address info words = (17, 3) ∷ (10, address) ∷ (11, info) ∷ words

abbrev pub slots_behind : Result AfterCall Refusal → Option (List NotedSlot)
slots_behind (Ok a) = Some a.slots
slots_behind (Err refusal) = None

abbrev pub refused_as : Result AfterCall Refusal → Option Refusal
refused_as (Ok a) = None
refused_as (Err refusal) = Some refusal

-- the numbers of the registers that a call writes
abbrev pub written_by : Result AfterCall Refusal → Option (List ℕ)
written_by (Ok a) = Some (map (λ x. x.0) a.written)
written_by (Err refusal) = None

abbrev pub worker_slots : List NotedSlot
worker_slots = image_slots worker_image worker_thread

-- what a call of the worker leaves
abbrev pub behind_call : List (ℕ × ℕ) → List NotedSlot → Result AfterCall Refusal
behind_call known slots = after_call worker_image worker_thread (at_point 0 0) (state_with known slots)

-- the worker's image with a second capability to its pool
unfoldable pub two_pools : Image
two_pools = record worker_image {
  header = record worker_image.header { capabilities = 5 };
  capabilities = worker_image.capabilities ++ record { cnode = 4; index = 6; source = 5; rights = 0; payload = 0 } ∷ [];
}

-- ---- the worker's loop

-- The program, a word a line: jump after the Revoke; Revoke the pool; Retype one frame into slot 4; Map it at 0x3000;
-- store; Send to the endpoint; jump back to the Revoke.
abbrev pub loop_words : List ℕ
loop_words =
    0x0200006F ∷ 0x00300893 ∷ 0x00200513 ∷ 0x0000C5B7 ∷ 0x00258593 ∷ 0x00100613 ∷ 0x02000693 ∷ 0x00000073
    ∷ 0x00300893 ∷ 0x00100513 ∷ 0x000015B7 ∷ 0x00658593 ∷ 0x00600613 ∷ 0x00000693 ∷ 0x00000713 ∷ 0x00000793
    ∷ 0x00400913 ∷ 0x00100993 ∷ 0x00000073 ∷ 0x00400513 ∷ 0x0000D5B7 ∷ 0x00458593 ∷ 0x00300613 ∷ 0x02000693
    ∷ 0x00003737 ∷ 0x00300793 ∷ 0x00000073 ∷ 0x00072023 ∷ 0x00500513 ∷ 0x00000593 ∷ 0x00000073 ∷ 0xF89FF06F ∷ []

-- the pool with a frame made, and the frame mapped or not
abbrev pub used_pool : SlotEntry
used_pool = record { cnode = 4; index = 1; word0 = 0x00C000D1; word1 = 0x1000; parent_cnode = no_parent; parent_index = no_parent }

abbrev pub made_frame : ℕ → ℕ → SlotEntry
made_frame word0 word1 = record { cnode = 4; index = 4; word0 = word0; word1 = word1; parent_cnode = 4; parent_index = 1 }

abbrev pub record_at : ℕ → ℕ → List RangeEntry → List SlotEntry → StateRecord
record_at point constant ranges slots = record {
  header = record { point = point; ranges = length ranges; slots = length slots; terms = 0; constant = pos constant };
  ranges = ranges;
  slots = slots;
  terms = [];
}

abbrev pub range_entry : ℕ → ℕ → RangeEntry
range_entry register value = record { register = register; low = value; high = value }

-- what is known at the entry, before the Revoke, before the Retype, before the Map and before the store
abbrev pub loop_records : List StateRecord
loop_records =
    record_at 0 24 [] [] ∷ record_at 1 30 [] (used_pool ∷ made_frame 0x00C00636 0x6013 ∷ []) ∷ record_at 8 23 [] []
    ∷ record_at 19 12 (range_entry 17 3 ∷ []) (used_pool ∷ made_frame 0x00C00036 0 ∷ [])
    ∷ record_at 27 4 (range_entry 14 0x3000 ∷ range_entry 17 3 ∷ []) (used_pool ∷ made_frame 0x00C00636 0x6013 ∷ []) ∷ []

abbrev pub loop_thread : List ℕ → List StateRecord → Thread
loop_thread words records = record {
  header = record {
    tcb = 3;
    cnode = 4;
    guard = 28;
    root = 1;
    priority = 100;
    budget = 31;
    fault = 0;
    buffer = no_buffer;
    entry = 0;
    base = 0x1000;
    registers = 0;
    words =
        length words;
    records = length records;
  };
  registers = [];
  words = words;
  records = records;
}

unfoldable pub loop_image : Image
loop_image = record worker_image { threads = loop_thread loop_words loop_records ∷ [] }

-- the loop with other words at two points
unfoldable pub loop_with : ℕ → ℕ → ℕ → ℕ → Image
loop_with point word other_point other_word =
    record worker_image { threads = loop_thread (slice_set (slice_set loop_words point word) other_point other_word) loop_records ∷ [] }

-- ---- its first round: the labels up to the Send, which waits for a receiver, and then nothing runs

abbrev pub loop_ran : Outcome → ℕ → Label
loop_ran outcome point = Ran 0x8000B000 (0x1000 + 4 * point) outcome

abbrev pub plain_from : ℕ → ℕ → List Label
plain_from point count = map (loop_ran Plain) (range_with_len point count)

abbrev pub first_round : List Label
first_round =
    plain_from 0 1 ++ plain_from 8 10 ++ (loop_ran Completed 18 ∷ []) ++ plain_from 19 7 ++ (loop_ran Completed 26 ∷ [])
    ++ plain_from 27 3 ++ loop_ran Waited 30 ∷ Idle ∷ []

-- the slots of the boot CNode, the interrupt table, the thread and its CNode
abbrev pub loop_slots : List ℕ
loop_slots = range_with_len 0 80 ++ range_with_len 0xB00 2 ++ range_with_len 0xB20 16

-- what the bytes of the loop are read as with another byte at an offset
unfoldable pub reading_with : ℕ → ℕ → Result Image Refusal
reading_with offset byte = reading whole_image (slice_set (whole_image.spelling loop_image) offset byte)
