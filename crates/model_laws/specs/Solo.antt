-- The image that rows are worked on: a thread that counts x5 down from 10, and then waits for line 3 again and again.
use Rattle.std.specs.Prelude.{ℕ, ℤ, pos, Result, Ok, Err, List, [], ◌∷◌, ◌++◌, flat_map, length, replicate}
use Rattle.std.specs.List.{range_with_len}
use Rattle.model.specs.declared.refusals.Point.{Point}
use Rattle.model.specs.declared.boot_faults.BootFault.{BootFault}
use Rattle.model.specs.declared.events.Event.{Event}
use Rattle.model.specs.declared.events.Event.TheVariants.{Irq, Step}
use Rattle.model.specs.declared.labels.Label.{Label}
use Rattle.model.specs.declared.labels.Label.TheVariants.{Ran}
use Rattle.model.specs.declared.labels.Outcome.TheVariants.{Plain}
use Rattle.model.specs.declared.ranges.Range.{Range}
use Rattle.model.specs.Images.Boot.{booted}
use Rattle.model.specs.Kernel.Setup.{boot_area}
use Rattle.model.specs.Kernel.State.{State}
use Rattle.model.specs.declared.refusals.Refusal.{Refusal}
use Rattle.model.specs.Shared.Bytes.{word_bytes}
use Rattle.model.specs.Images.Format.{reading}
use Rattle.model.specs.Images.Image.{Image, Thread, whole_image, no_buffer}

-- the header and the sections before the thread, by words
abbrev pub solo_front : List ℕ
solo_front =
    (0x5359534d ∷ 1 ∷ 0x10 ∷ 4 ∷ 1 ∷ 7 ∷ 2 ∷ 1 ∷ 1 ∷ 2 ∷ 0 ∷ 1 ∷ []) ++ (0x8000 ∷ 0xf ∷ [])
    ++ (0 ∷ 6 ∷ 0 ∷ 0 ∷ 8 ∷ 0 ∷ 0 ∷ 7 ∷ 0 ∷ 0 ∷ 6 ∷ 0 ∷ 0 ∷ 2 ∷ 0 ∷ 0 ∷ 5 ∷ 4 ∷ 0 ∷ 4 ∷ 0 ∷ [])
    ++ (5 ∷ 1 ∷ 6 ∷ 2 ∷ 0 ∷ 5 ∷ 2 ∷ 7 ∷ 0 ∷ 0 ∷ []) ++ (3 ∷ 6 ∷ 1 ∷ []) ++ (1 ∷ 0 ∷ 2 ∷ [])
    ++ (1 ∷ 0x1000 ∷ 0 ∷ 4 ∷ []) ++ (1 ∷ 0x2000 ∷ 3 ∷ 3 ∷ [])

-- the thread's header with a budget
abbrev pub solo_header : ℕ → List ℕ
solo_header budget = 4 ∷ 5 ∷ 28 ∷ 1 ∷ 100 ∷ budget ∷ 0 ∷ 0 ∷ 0 ∷ 0x1000 ∷ 0 ∷ 7 ∷ 3 ∷ []

abbrev pub solo_program : List ℕ
solo_program = 0xa00293 ∷ 0xfff28293 ∷ 0xfe029ee3 ∷ 0x100513 ∷ 0x500893 ∷ 0x73 ∷ 0xff5ff06f ∷ []

-- the certificate, with the least value of x5 at the head of the loop
abbrev pub solo_records : ℕ → List ℕ
solo_records low = (0 ∷ 0 ∷ 0 ∷ 0 ∷ 24 ∷ 0 ∷ []) ++ (1 ∷ 1 ∷ 0 ∷ 1 ∷ 3 ∷ 0 ∷ 5 ∷ low ∷ 10 ∷ 5 ∷ 2 ∷ []) ++ (2 ∷ 1 ∷ 0 ∷ 1 ∷ 4 ∷ 0 ∷ 5 ∷ 0 ∷ 9 ∷ 5 ∷ 2 ∷ [])

abbrev pub solo_words : ℕ → ℕ → List ℕ
solo_words budget low = solo_front ++ solo_header budget ++ solo_program ++ solo_records low

unfoldable pub bytes_of : List ℕ → List ℕ
bytes_of words = flat_map word_bytes words

unfoldable pub solo : List ℕ
solo = bytes_of (solo_words 24 1)

abbrev pub at_point : ℕ → ℕ → Point
at_point thread point = record { thread = thread; point = point }

-- the image that the bytes are read as
abbrev pub empty_image : Image
empty_image = record {
  header = record {
    version = 0;
    memory_bits = 0;
    boot_radix = 0;
    untypeds = 0;
    objects = 0;
    capabilities = 0;
    interrupts = 0;
    tables = 0;
    frames = 0;
    contents = 0;
    promises = 0;
    threads = 0;
  };
  untypeds = [];
  objects = [];
  capabilities = [];
  interrupts = [];
  tables = [];
  frames = [];
  contents = [];
  promises = [];
  threads = [];
}

abbrev pub read_or_empty : Result Image Refusal → Image
read_or_empty (Ok image) = image
read_or_empty (Err refusal) = empty_image

unfoldable pub solo_image : Image
solo_image = read_or_empty (reading whole_image solo)

-- the range of a register
abbrev pub range : ℕ → ℕ → Range
range low high = record { low = low; high = high }

-- the image with other rights for its data page, or with its untyped memory elsewhere
abbrev pub solo_mapped : ℕ → Image
solo_mapped rights =
    record solo_image {
      frames = record { root = 1; address = 0x1000; frame = 0; rights = 4 }
          ∷ record { root = 1; address = 0x2000; frame = 3; rights = rights } ∷ [];
    }

abbrev pub solo_at : ℕ → Image
solo_at offset = record solo_image { untypeds = record { offset = offset; bits = 15 } ∷ [] }

-- ---- other threads in place of solo's

abbrev pub short_thread : ℕ → ℕ → List ℕ → ℤ → Thread
short_thread tcb budget words constant = record {
  header = record {
    tcb = tcb;
    cnode = 5;
    guard = 28;
    root = 1;
    priority = 100;
    budget = budget;
    fault = 0;
    buffer = no_buffer;
    entry = 0;
    base = 0x1000;
    registers = 0;
    words =
        length words;
    records = 1;
  };
  registers = [];
  words = words;
  records = record { header = record { point = 0; ranges = 0; slots = 0; terms = 0; constant = constant }; ranges = []; slots = []; terms = [] } ∷ [];
}

-- a thread that yields again and again
unfoldable pub yielding : Image
yielding = record solo_image { threads = short_thread 4 4 (0x00700893 ∷ 0x00000073 ∷ 0xFF9FF06F ∷ []) (pos 3) ∷ [] }

-- two threads with one CNode: an object more, and a thread more
unfoldable pub two_threads : Image
two_threads =
    let one = short_thread 4 4 (0x00000073 ∷ []) (pos 3) in
    let two = short_thread 7 4 (0x00000073 ∷ []) (pos 3) in
    record solo_image {
      header = record solo_image.header { objects = 8; threads = 2 };
      objects = solo_image.objects ++ record { untyped = 0; kind = 2; size = 0 } ∷ [];
      capabilities = [];
      threads = one ∷ two ∷ [];
    }

-- ---- events and what comes of them

unfoldable pub solo_events : List Event
solo_events = replicate 25 Step ++ Irq 3 ∷ Step ∷ []

abbrev pub ran_at : ℕ → Label
ran_at pc = Ran 0x8000C000 pc Plain

-- the first instruction, and ten rounds of the loop
abbrev pub solo_start : List Label
solo_start = ran_at 0x1000 ∷ []

abbrev pub solo_loop : List Label
solo_loop = flat_map (λ round. ran_at 0x1004 ∷ ran_at 0x1008 ∷ []) (range_with_len 0 10)

-- the slots of the boot CNode, the interrupt table, the thread and its CNode
abbrev pub solo_slots : List ℕ
solo_slots = range_with_len 0 80 ++ range_with_len 0xC00 2 ++ range_with_len 0xC20 16

abbrev pub state_or : State → Result State BootFault → State
state_or otherwise (Ok s) = s
state_or otherwise (Err fault) = otherwise

-- the state that loading leaves, or else the empty machine
unfoldable pub booted_or : Image → State
booted_or image = state_or (boot_area image.header.memory_bits image.header.boot_radix) (booted image)
