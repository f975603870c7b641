-- What the calls of the kernel ask about capabilities, and what they make of them.
-- seL4 Reference Manual, "Capability-based Access Control".
use Rattle.std.specs.Prelude.{ℕ, ◌==◌, Bool, true, false, not, Option, Some, None}
use Rattle.std.specs.Option.{option_map_or}
use Rattle.model.specs.declared.capabilities.Cap.{Cap}
use Rattle.model.specs.declared.capabilities.Cap.TheVariants.{Empty, Untyped, Endpoint, Notification, CNode, Frame, PageTable, Tcb, RootTable, InterruptControl}
use Rattle.model.specs.declared.capabilities.Cap.TheVariants.{InterruptHandler}
use Rattle.model.specs.declared.capabilities.FrameMapping.{FrameMapping}
use Rattle.model.specs.declared.capabilities.TableMapping.{TableMapping}
use Rattle.model.specs.Capabilities.CapabilityWords.{allowed_badge, allowed_guard_word}
use Rattle.model.specs.Capabilities.Conditions.{is_met}
use Rattle.model.specs.Capabilities.Rights.{rights, common}

-- the object that a capability names; an untyped is no object, and a line is none
abbrev pub object_of : Cap → Option ℕ
object_of Empty = None
object_of (Untyped offset bits watermark) = None
object_of (Endpoint offset r badge) = Some offset
object_of (Notification offset r badge) = Some offset
object_of (CNode offset radix guard) = Some offset
object_of (Frame offset r mapping) = Some offset
object_of (PageTable offset mapping) = Some offset
object_of (Tcb offset) = Some offset
object_of (RootTable offset) = Some offset
object_of InterruptControl = None
object_of (InterruptHandler irq_line) = None

abbrev pub names_object : ℕ → Cap → Bool
names_object offset capability = option_map_or (λ named. named == offset) (object_of capability) false

abbrev pub is_untyped : Cap → Bool
is_untyped (Untyped offset bits watermark) = true
is_untyped _ = false

-- a CNode: where it lies, and that it has 2 ^ radix slots
pub record Node : Type 0 where
  pub offset : ℕ
  pub radix : ℕ

abbrev pub cnode_of : Cap → Option Node
cnode_of (CNode offset radix guard) = Some (record { offset = offset; radix = radix })
cnode_of _ = None

abbrev pub root_of : Cap → Option ℕ
root_of (RootTable offset) = Some offset
root_of _ = None

abbrev pub frame_of : Cap → Option ℕ
frame_of (Frame offset r mapping) = Some offset
frame_of _ = None

abbrev pub thread_of : Cap → Option ℕ
thread_of (Tcb offset) = Some offset
thread_of _ = None

abbrev pub is_handler_of : ℕ → Cap → Bool
is_handler_of line (InterruptHandler irq_line) = irq_line == line
is_handler_of line _ = false

-- an endpoint or a notification
abbrev pub carries_messages : Cap → Bool
carries_messages (Endpoint offset r badge) = true
carries_messages (Notification offset r badge) = true
carries_messages _ = false

abbrev pub is_badged : Cap → Bool
is_badged (Endpoint offset r badge) = not (badge == 0)
is_badged (Notification offset r badge) = not (badge == 0)
is_badged _ = false

-- untyped memory, page tables and interrupt control have one capability
abbrev pub may_be_copied : Cap → Bool
may_be_copied (Untyped offset bits watermark) = false
may_be_copied (PageTable offset mapping) = false
may_be_copied InterruptControl = false
may_be_copied _ = true

-- a copy keeps badge and guard, has the rights that the rights word has too, and no mapping
abbrev pub copied : Cap → ℕ → Cap
copied (Endpoint offset r badge) word = Endpoint offset (common r (rights word)) badge
copied (Notification offset r badge) word = Notification offset (common r (rights word)) badge
copied (Frame offset r mapping) word = Frame offset (common r (rights word)) None
copied capability word = capability

-- the same with another badge or guard word; other kinds have no use for it
abbrev pub with_payload : Cap → ℕ → Cap
with_payload (Endpoint offset r badge) payload = Endpoint offset r payload
with_payload (Notification offset r badge) payload = Notification offset r payload
with_payload (CNode offset radix guard) payload = CNode offset radix payload
with_payload capability payload = capability

abbrev pub is_badge : ℕ → Bool
is_badge badge = is_met (allowed_badge badge)

abbrev pub badge_fits : Cap → ℕ → Bool
badge_fits (Endpoint offset r badge) payload = is_badge payload
badge_fits (Notification offset r badge) payload = is_badge payload
badge_fits _ payload = true

abbrev pub is_guard_word : ℕ → ℕ → Bool
is_guard_word radix word = is_met (allowed_guard_word radix word)

abbrev pub guard_fits : Cap → ℕ → Bool
guard_fits (CNode offset radix guard) payload = is_guard_word radix payload
guard_fits _ payload = true

-- ---- mappings

abbrev pub frame_mapping : Cap → Option FrameMapping
frame_mapping (Frame offset r mapping) = mapping
frame_mapping _ = None

abbrev pub table_mapping : Cap → Option TableMapping
table_mapping (PageTable offset mapping) = mapping
table_mapping _ = None

abbrev pub with_frame_mapping : Cap → Option FrameMapping → Cap
with_frame_mapping (Frame offset r old) mapping = Frame offset r mapping
with_frame_mapping capability mapping = capability

abbrev pub with_table_mapping : Cap → Option TableMapping → Cap
with_table_mapping (PageTable offset old) mapping = PageTable offset mapping
with_table_mapping capability mapping = capability

-- the capability without its mapping
abbrev pub unmapped : Cap → Cap
unmapped (Frame offset r mapping) = Frame offset r None
unmapped (PageTable offset mapping) = PageTable offset None
unmapped capability = capability
