-- Interrupt lines: what raising one does, and acknowledging it.
-- seL4 Reference Manual, "Hardware I/O", "Interrupt Delivery"; the mask and pending bits are our own.
use Rattle.std.specs.Prelude.{ℕ, nat_lt, Bool, true, false, if◌then◌else◌, Option, Some, None}
use Rattle.std.specs.Option.{option_map_or}
use Rattle.model.specs.declared.capabilities.Cap.{Cap}
use Rattle.model.specs.declared.capabilities.Cap.TheVariants.{Empty, Untyped, Endpoint, Notification, CNode, Frame, PageTable, Tcb, RootTable, InterruptControl}
use Rattle.model.specs.declared.capabilities.Cap.TheVariants.{InterruptHandler}
use Rattle.model.specs.Capabilities.Slots.{capability_at}
use Rattle.model.specs.Kernel.State.{State, put, binding_slot}
use Rattle.model.specs.Kernel.Messages.{signal}

-- what a line signals: a notification, and with which badge
pub record Signal : Type 0 where
  pub notification : ℕ
  pub badge : ℕ

-- what a capability in a line's slot makes it signal
abbrev pub signal_of : Cap → Option Signal
signal_of Empty = None
signal_of (Untyped offset bits watermark) = None
signal_of (Endpoint offset rights badge) = None
signal_of (Notification offset rights badge) = Some (record { notification = offset; badge = badge })
signal_of (CNode offset radix guard) = None
signal_of (Frame offset rights mapping) = None
signal_of (PageTable offset mapping) = None
signal_of (Tcb offset) = None
signal_of (RootTable offset) = None
signal_of InterruptControl = None
signal_of (InterruptHandler irq_line) = None

-- what a line is bound to, if it is bound
abbrev pub binding : State → ℕ → Option Signal
binding s line = signal_of (capability_at s.slots (binding_slot s line))

-- the line's interrupt is delivered, and the line is masked
abbrev pub interrupt : State → ℕ → Signal → State
interrupt s line bound = record (signal s bound.notification bound.badge) { masked = put s.masked line true }

abbrev pub with_pending : State → ℕ → Bool → State
with_pending s line bit = record s { pending = put s.pending line bit }

-- An interrupt is delivered on a line that is bound and not masked, and is pending on another. Lines above 63 do
-- nothing.
abbrev pub raise : State → ℕ → State
raise s line =
    if nat_lt 63 line then s
    else if s.masked line then with_pending s line true
    else option_map_or (interrupt s line) (binding s line) (with_pending s line true)

-- the line is not masked any more; an interrupt that is pending is delivered if the line is bound
abbrev pub acknowledge : State → ℕ → State
acknowledge s line =
    let unmasked = record s { masked = put s.masked line false } in
    if s.pending line
    then option_map_or (interrupt (with_pending unmasked line false) line) (binding s line) unmasked
    else unmasked
