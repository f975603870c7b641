-- Parts of an image, which are sets of its threads: what a part takes from the others, the image of a part alone, and what of a run is its own.
-- A part that takes nothing is seL4's noninterference for one set of threads; the words are our own.
use Rattle.std.specs.Prelude.{ℕ, ◌==◌, ◌+◌, Bool, false, not, ◌&&◌, ◌||◌, List, [], ◌∷◌, filter, length, nat_lt, if◌then◌else◌}
use Rattle.std.specs.List.{list_any, list_all, range_with_len}
use Rattle.std.specs.Option.{option_map_or}
use Rattle.model.specs.declared.entries.CapabilityEntry.{CapabilityEntry}
use Rattle.model.specs.declared.entries.FrameEntry.{FrameEntry}
use Rattle.model.specs.declared.events.Event.{Event}
use Rattle.model.specs.declared.events.Event.TheVariants.{Step, Tick, Irq, Write, Read}
use Rattle.model.specs.declared.labels.Label.{Label}
use Rattle.model.specs.declared.labels.Label.TheVariants.{Idle, Ticked, Raised, Wrote, Showed, Ran}
use Rattle.model.specs.Acceptance.Authority.{self_of}
use Rattle.model.specs.Acceptance.Devices.{holds_word}
use Rattle.model.specs.Acceptance.ThreadRules.{is_member, reached}
use Rattle.model.specs.Acceptance.WellFormed.{is_endpoint_type, is_frame_type}
use Rattle.model.specs.Capabilities.Rights.{may_read, may_write, rights}
use Rattle.model.specs.Images.Described.{numbered}
use Rattle.model.specs.Images.Image.{Image, Thread}
use Rattle.model.specs.Images.Places.{type_at}
use Rattle.model.specs.Kernel.Scheduling.{current}
use Rattle.model.specs.Kernel.State.{State}
use Rattle.model.specs.Kernel.Steps.{memory_base, place_of, step}

-- ---- parts

-- a part, as a test of the objects that are its threads' control blocks
abbrev pub Part : Type 0
Part = ℕ → Bool

abbrev pub is_in : Part → Thread → Bool
is_in part t = part t.header.tcb

-- whether the control block at an offset is that of a thread of the part
abbrev pub is_thread_in : Image → Part → ℕ → Bool
is_thread_in image part offset = list_any (λ t. is_in part t && self_of image t == offset) image.threads

-- the image without the other threads, all else as it is
unfoldable pub alone : Image → Part → Image
alone image part =
    let threads = filter (is_in part) image.threads in
    record image { header = record image.header { threads = length threads }; threads = threads }

-- ---- what a thread may take, and what it may change

-- whether the image lists such a capability in a CNode of the thread
abbrev pub lists : Image → Thread → (CapabilityEntry → Bool) → Bool
lists image t test = list_any (λ c. is_member c.cnode (reached image t) && test c) image.capabilities

-- whether it maps such a frame under the root table of the thread
abbrev pub maps : Image → Thread → (FrameEntry → Bool) → Bool
maps image t test = list_any (λ f. f.root == t.header.root && test f) image.frames

-- by a capability of such rights one receives, waits or loads. Who sends to an endpoint may wait there.
abbrev pub takes_by : Image → CapabilityEntry → Bool
takes_by image c = may_read (rights c.rights) || is_endpoint_type (type_at image c.source) && may_write (rights c.rights)

-- Whether what happens to an object may change what the thread does: it reads its bytes, has it as buffer, or receives, waits or sends there.
unfoldable pub takes : Image → Thread → ℕ → Bool
takes image t object =
    maps image t (λ f. f.frame == object) || lists image t (λ c. c.source == object && takes_by image c) || t.header.buffer == object

-- by a capability of such rights one sends, signals or stores; and who receives at an endpoint or a notification takes what waits there
abbrev pub changes_by : Image → CapabilityEntry → Bool
changes_by image c = may_write (rights c.rights) || not (is_frame_type (type_at image c.source)) && may_read (rights c.rights)

-- whether the thread has the handler of a line that is bound to the notification
abbrev pub acknowledges : Image → Thread → ℕ → Bool
acknowledges image t object =
    list_any (λ i. (i.1).notification == object && lists image t (λ c. c.source == image.header.objects + i.0)) (numbered image.interrupts)

-- Whether the thread may change an object: it writes its bytes, has it as buffer, sends, signals, receives or waits there, or acknowledges
-- a line that signals it.
unfoldable pub changes : Image → Thread → ℕ → Bool
changes image t object =
    maps image t (λ f. f.frame == object && may_write (rights f.rights)) || lists image t (λ c. c.source == object && changes_by image c)
    || t.header.buffer == object || acknowledges image t object

-- Nothing that a thread of the part takes may be changed by a thread outside of it. What the part changes the others may take.
unfoldable pub takes_nothing : Image → Part → Bool
takes_nothing image part =
    list_all (λ t. list_all (λ u. not (is_in part t) || is_in part u
    || list_all (λ object. not (takes image t object && changes image u object)) (range_with_len 0 image.header.objects)) image.threads) image.threads

-- the part's priorities are above those of all others
unfoldable pub is_above : Image → Part → Bool
is_above image part =
    list_all (λ t. list_all (λ u. not (is_in part t) || is_in part u || nat_lt u.header.priority t.header.priority) image.threads) image.threads

-- ---- what of a run is the part's own

-- whether a line signals what a thread of the part takes
abbrev pub is_line_of : Image → Part → ℕ → Bool
is_line_of image part line =
    list_any (λ i. i.line == line && list_any (λ t. is_in part t && takes image t i.notification) image.threads) image.interrupts

-- whether a word of the world is in a device page that a thread of the part takes
abbrev pub is_word_of : Image → Part → ℕ → Bool
is_word_of image part place =
    list_any (λ object. holds_word image place object && list_any (λ t. is_in part t && takes image t object) image.threads)
    (range_with_len 0 image.header.objects)

-- a step or a tick in which a thread of the part is the current one, the interrupt of one of its lines, or what the world does to a word of
-- a device page that it takes
abbrev pub is_own : Image → Part → State → Event → Bool
is_own image part s Step = option_map_or (is_thread_in image part) (current s) false
is_own image part s Tick = option_map_or (is_thread_in image part) (current s) false
is_own image part s (Irq irq_line) = is_line_of image part irq_line
is_own image part s (Write address word) = is_word_of image part (place_of address)
is_own image part s (Read address) = is_word_of image part (place_of address)

-- the part's own events among all
unfoldable pub own_events : Image → Part → State → List Event → List Event
own_events image part s [] = []
own_events image part s (event ∷ events) =
    let later = own_events image part (step s event).0 events in if is_own image part s event then event ∷ later else later

-- and their labels
unfoldable pub own_labels : Image → Part → State → List Event → List Label
own_labels image part s [] = []
own_labels image part s (event ∷ events) =
    let next = step s event in
    let later = own_labels image part next.0 events in
    if is_own image part s event then next.1 ∷ later else later

-- a label as the part alone has it: a step of another thread is none, and of a word that the part does not take nothing is seen
abbrev pub without_others : Image → Part → Label → Label
without_others image part Idle = Idle
without_others image part Ticked = Ticked
without_others image part (Raised irq_line) = Raised irq_line
without_others image part (Wrote address word) = Wrote address word
without_others image part (Showed address word) = if is_word_of image part (place_of address) then Showed address word else Showed address 0
without_others image part (Ran thread pc outcome) =
    if list_any (λ t. is_in part t && memory_base + self_of image t == thread) image.threads then Ran thread pc outcome else Idle
