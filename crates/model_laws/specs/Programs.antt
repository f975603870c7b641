-- Short programs in place of solo's, for rows on the rules on programs.
use Rattle.std.specs.Prelude.{ℕ, ℤ, pos, List, [], ◌∷◌, length, map}
use Rattle.model.specs.declared.entries.RangeEntry.{RangeEntry}
use Rattle.model.specs.declared.entries.SlotEntry.{SlotEntry}
use Rattle.model.specs.declared.entries.TermEntry.{TermEntry}
use Rattle.model.specs.Images.Image.{Image, StateRecord, Thread, no_buffer, no_parent}
use Rattle.model_laws.specs.Solo.{solo_image}

unfoldable pub program : ℕ → List ℕ → List StateRecord → Image
program budget words records = record solo_image {
  threads = record {
    header = record {
      tcb = 4;
      cnode = 5;
      guard = 28;
      root = 1;
      priority = 100;
      budget = budget;
      fault = 0;
      buffer = no_buffer;
      entry = 0;
      base = 0x1000;
      registers = 0;
      words =
          length words;
      records = length records;
    };
    registers = [];
    words = words;
    records = records;
  } ∷ [];
}

abbrev pub with_entry : ℕ → Thread → Thread
with_entry entry t = record t { header = record t.header { entry = entry } }

-- the same programs, entered at another point
unfoldable pub entered_at : ℕ → Image → Image
entered_at entry image = record image { threads = map (with_entry entry) image.threads }

abbrev pub noted_as : ℕ → ℤ → List TermEntry → List RangeEntry → List SlotEntry → StateRecord
noted_as point constant terms ranges slots = record {
  header = record { point = point; ranges = length ranges; slots = length slots; terms = length terms; constant = constant };
  ranges = ranges;
  slots = slots;
  terms = terms;
}

-- a point with a constant measure
abbrev pub constant_at : ℕ → ℕ → StateRecord
constant_at point constant = noted_as point (pos constant) [] [] []

abbrev pub range_entry : ℕ → ℕ → ℕ → RangeEntry
range_entry register low high = record { register = register; low = low; high = high }

-- a slot of the thread's CNode that holds the notification, below another
abbrev pub notification_slot : ℕ → ℕ → SlotEntry
notification_slot index parent = record { cnode = 5; index = index; word0 = 0x00C30024; word1 = 0; parent_cnode = 5; parent_index = parent }

-- a slot that holds the notification, whose parent is in the boot CNode
abbrev pub full_slot : ℕ → ℕ → SlotEntry
full_slot cnode index = record { cnode = cnode; index = index; word0 = 0x00C30024; word1 = 0; parent_cnode = no_parent; parent_index = no_parent }

abbrev pub empty_slot : ℕ → ℕ → SlotEntry
empty_slot cnode index = record { cnode = cnode; index = index; word0 = 0; word1 = 0; parent_cnode = no_parent; parent_index = no_parent }

-- wait for the notification again and again: addi x10 x0 1, addi x17 x0 5, ecall, jal back
abbrev pub waiting : List ℕ → List ℕ
waiting behind = 0x00100513 ∷ 0x00500893 ∷ 0x00000073 ∷ 0xFF5FF06F ∷ behind

abbrev pub term : ℕ → ℤ → TermEntry
term register coefficient = record { register = register; coefficient = coefficient }

abbrev pub nop : ℕ
nop = 0x00000013
