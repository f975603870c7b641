-- Which labels are waits.
use Rattle.std.proofs.Common.{ℕ, ◌≡◌, ◌∙◌, ◌==◌, ◌-◌, ◌%◌, ◌||◌, Bool, true, false, if◌then◌else◌, Option, Some, None, Result, Ok, Err, refl, sym, ap, subst}
use Rattle.std.specs.Option.{option_map_or}
use Rattle.model.specs.declared.capabilities.Cap.{Cap}
use Rattle.model.specs.declared.capabilities.Cap.TheVariants.{Empty, Untyped, Endpoint, Notification, CNode, Frame, PageTable, Tcb, RootTable, InterruptControl}
use Rattle.model.specs.declared.capabilities.Cap.TheVariants.{InterruptHandler}
use Rattle.model.specs.declared.errors.KError.{KError}
use Rattle.model.specs.declared.errors.KError.TheVariants.{InvalidCapability}
use Rattle.model.specs.declared.events.Event.{Event}
use Rattle.model.specs.declared.events.Event.TheVariants.{Step, Tick, Irq, Write, Read}
use Rattle.model.specs.declared.instructions.Access.TheVariants as accesses
use Rattle.model.specs.declared.instructions.Access.TheVariants.{Fetch}
use Rattle.model.specs.declared.instructions.AccessSize.TheVariants.{Word}
use Rattle.model.specs.declared.instructions.Cause.TheVariants.{Misaligned}
use Rattle.model.specs.declared.instructions.Exec.{Exec}
use Rattle.model.specs.declared.instructions.Exec.TheVariants.{Next, Ecall, Trap, Memory}
use Rattle.model.specs.declared.instructions.Instr.{Instr}
use Rattle.model.specs.declared.instructions.Instr.TheVariants as instrs
use Rattle.model.specs.declared.instructions.LoadOp.{LoadOp}
use Rattle.model.specs.declared.instructions.MemoryFault.{MemoryFault}
use Rattle.model.specs.declared.instructions.Register.{Register}
use Rattle.model.specs.declared.labels.Label.TheVariants.{Idle, Ran}
use Rattle.model.specs.declared.labels.Outcome.{Outcome}
use Rattle.model.specs.declared.labels.Outcome.TheVariants.{Plain}
use Rattle.model.specs.declared.lookup_failures.LookupFailure.{LookupFailure}
use Rattle.model.specs.declared.lookup_failures.LookupFailure.TheVariants.{MissingCapability}
use Rattle.model.specs.Kernel.AddressSpaces.{content_of, with_content}
use Rattle.model.specs.Machine.Decoding.{decoded}
use Rattle.model.specs.Machine.ProgramMemory.{Content, RegisterFile, write, loaded, read, stored}
use Rattle.model.specs.Machine.Effects.{is_taken, load_size, next_pc, plus, store_size, branches, effect, goes_on, stays, jumps, loads, stores}
use Rattle.model.specs.Kernel.Messages.{a7, reply, with_registers}
use Rattle.model.specs.Capabilities.Rights.{may_grant_reply, may_read, may_write}
use Rattle.model.specs.Kernel.Scheduling.{current}
use Rattle.model.specs.Capabilities.Slots.{capability_at}
use Rattle.model.specs.Kernel.State.{State}
use Rattle.model.specs.Kernel.Steps.{Done, after_effect, after_invocation, call_of, calls, calls_known, invokes, lacks_capability, named_slot, ran, receive_by}
use Rattle.model.specs.Kernel.Steps.{receive_named, receive_on_endpoint, receive_on_notification, refused, registers_of, runs, runs_decoded, runs_fetched}
use Rattle.model.specs.Kernel.Steps.{send_by, send_named, send_on, signal_on, sends_nothing, step, system_call}
use Rattle.model.specs.declared.system_calls.SendCall.{SendCall}
use Rattle.model.specs.declared.system_calls.SendCall.TheVariants.{Calling, Sending, Trying}
use Rattle.model.specs.declared.system_calls.ReceiveCall.TheVariants.{Receiving, Polling}
use Rattle.model.specs.declared.system_calls.SystemCall.{SystemCall}
use Rattle.model.specs.declared.system_calls.SystemCall.TheVariants.{Sends, Receives, RepliesAndReceives, Replies, Yields, PutsCharacter}
use Rattle.model.specs.Kernel.Waits.{is_error, is_fault, is_wait, is_waited}
use Rattle.model_laws.specs.WaitingCalls.{IsWaitingCall, receives, replies_and_receives, calls_endpoint, sends_to_endpoint, NamesEndpoint, StandsAtWait}

abbrev Waits : Done → Type 0
Waits done = is_waited done.1 ≡ true

no-wait : {A : Type 0} → false ≡ true → A
no-wait h = absurd (let clash : false ≡ true = h in cc)

-- ---- invocations do not wait

after_invocation-plain : (s : State) (thread : ℕ) (kind : SendCall) (r : Result State KError) → Waits (after_invocation s thread kind r) → ⊥
after_invocation-plain s thread kind (Ok after) waits = no-wait waits
after_invocation-plain s thread kind (Err error) waits = no-wait waits

invokes-plain : (s : State) (thread : ℕ) (kind : SendCall) (slot : ℕ) (capability : Cap) → Waits (invokes s thread kind slot capability) → ⊥
invokes-plain s thread kind slot capability waits = after_invocation-plain s thread kind _ waits

-- ---- sends

send_on-waits : (s : State) (thread : ℕ) (kind : SendCall) (endpoint badge : ℕ) (grant : Bool) → NamesEndpoint s thread
    → Waits (send_on s thread kind endpoint badge grant) → IsWaitingCall s thread (Sends kind)
send_on-waits s thread Calling endpoint badge grant names waits = calls_endpoint names
send_on-waits s thread Sending endpoint badge grant names waits = sends_to_endpoint names
send_on-waits s thread Trying endpoint badge grant names waits = no-wait waits

send_by-waits : (s : State) (thread : ℕ) (kind : SendCall) (slot : ℕ) (capability : Cap) → named_slot s thread ≡ Ok slot →
    capability_at s.slots slot ≡ capability
    → Waits (send_by s thread kind slot capability) → IsWaitingCall s thread (Sends kind)
send_by-waits s thread kind slot Empty found is waits = absurd (invokes-plain s thread kind slot Empty waits)
send_by-waits s thread kind slot (Untyped offset bits watermark) found is waits =
    absurd (invokes-plain s thread kind slot (Untyped offset bits watermark) waits)
send_by-waits s thread kind slot (Endpoint offset r badge) found is waits =
    elim (may_write r) as (λ b. Waits (if b then send_on s thread kind offset badge (may_grant_reply r) else refused s thread kind InvalidCapability) →
    IsWaitingCall s thread (Sends kind)) [
      | true ↦ λ h. send_on-waits s thread kind offset badge (may_grant_reply r)
          (record { slot = slot; offset = offset; badge = badge; allowed = r; found = found; holds = is }) h
      | false ↦ λ h. no-wait h
    ] waits
send_by-waits s thread kind slot (Notification offset r badge) found is waits =
    elim (may_write r) as (λ b. Waits (if b then signal_on s thread kind offset badge else refused s thread kind InvalidCapability) →
    IsWaitingCall s thread (Sends kind)) [
      | true ↦ λ h. no-wait h
      | false ↦ λ h. no-wait h
    ] waits
send_by-waits s thread kind slot (CNode offset radix guard) found is waits = absurd (invokes-plain s thread kind slot (CNode offset radix guard) waits)
send_by-waits s thread kind slot (Frame offset r mapping) found is waits = absurd (invokes-plain s thread kind slot (Frame offset r mapping) waits)
send_by-waits s thread kind slot (PageTable offset mapping) found is waits = absurd (invokes-plain s thread kind slot (PageTable offset mapping) waits)
send_by-waits s thread kind slot (Tcb offset) found is waits = absurd (invokes-plain s thread kind slot (Tcb offset) waits)
send_by-waits s thread kind slot (RootTable offset) found is waits = absurd (invokes-plain s thread kind slot (RootTable offset) waits)
send_by-waits s thread kind slot InterruptControl found is waits = absurd (invokes-plain s thread kind slot InterruptControl waits)
send_by-waits s thread kind slot (InterruptHandler irq_line) found is waits = absurd (invokes-plain s thread kind slot (InterruptHandler irq_line) waits)

sends_nothing-plain : (s : State) (thread : ℕ) (kind : SendCall) (failure : LookupFailure) → Waits (sends_nothing s thread kind failure) → ⊥
sends_nothing-plain s thread Calling failure waits = no-wait waits
sends_nothing-plain s thread Sending failure waits = no-wait waits
sends_nothing-plain s thread Trying failure waits = no-wait waits

send_named-waits : (s : State) (thread : ℕ) (kind : SendCall) (named : Result ℕ LookupFailure) → named_slot s thread ≡ named
    → Waits (send_named s thread kind named) → IsWaitingCall s thread (Sends kind)
send_named-waits s thread kind (Ok slot) found waits = send_by-waits s thread kind slot (capability_at s.slots slot) found refl waits
send_named-waits s thread kind (Err failure) found waits = absurd (sends_nothing-plain s thread kind failure waits)

-- ---- receives that do not wait

poll_by-plain : (s : State) (thread : ℕ) (capability : Cap) → Waits (receive_by s thread Polling capability) → ⊥
poll_by-plain s thread Empty waits = no-wait waits
poll_by-plain s thread (Untyped offset bits watermark) waits = no-wait waits
poll_by-plain s thread (Endpoint offset r badge) waits =
    elim (may_read r) as (λ b. Waits (if b then receive_on_endpoint s thread Polling offset else lacks_capability s thread 1 MissingCapability) → ⊥) [
      | true ↦ λ h. no-wait h
      | false ↦ λ h. no-wait h
    ] waits
poll_by-plain s thread (Notification offset r badge) waits =
    elim (may_read r) as (λ b. Waits (if b then receive_on_notification s thread Polling offset else lacks_capability s thread 1 MissingCapability) → ⊥) [
      | true ↦ λ h. no-wait h
      | false ↦ λ h. no-wait h
    ] waits
poll_by-plain s thread (CNode offset radix guard) waits = no-wait waits
poll_by-plain s thread (Frame offset r mapping) waits = no-wait waits
poll_by-plain s thread (PageTable offset mapping) waits = no-wait waits
poll_by-plain s thread (Tcb offset) waits = no-wait waits
poll_by-plain s thread (RootTable offset) waits = no-wait waits
poll_by-plain s thread InterruptControl waits = no-wait waits
poll_by-plain s thread (InterruptHandler irq_line) waits = no-wait waits

poll_named-plain : (s : State) (thread : ℕ) (named : Result ℕ LookupFailure) → Waits (receive_named s thread Polling named) → ⊥
poll_named-plain s thread (Ok slot) waits = poll_by-plain s thread (capability_at s.slots slot) waits
poll_named-plain s thread (Err failure) waits = no-wait waits

-- ---- system calls

calls-waits : (s : State) (thread : ℕ) (call : SystemCall) → Waits (calls s thread call) → IsWaitingCall s thread call
calls-waits s thread (Sends kind) waits = send_named-waits s thread kind (named_slot s thread) refl waits
calls-waits s thread (Receives Receiving) waits = receives
calls-waits s thread (Receives Polling) waits = absurd (poll_named-plain s thread (named_slot s thread) waits)
calls-waits s thread RepliesAndReceives waits = replies_and_receives
calls-waits s thread Replies waits = no-wait waits
calls-waits s thread Yields waits = no-wait waits
calls-waits s thread PutsCharacter waits = no-wait waits

abbrev WaitingNumber : State → ℕ → Option SystemCall → Type 0
WaitingNumber s thread named = (call : SystemCall) × (named ≡ Some call) × IsWaitingCall s thread call

calls_known-waits : (s : State) (thread number : ℕ) (named : Option SystemCall) → Waits (calls_known s thread number named) → WaitingNumber s thread named
calls_known-waits s thread number (Some call) waits = (call, refl, calls-waits s thread call waits)
calls_known-waits s thread number None waits = no-wait waits

system_call-waits : (s : State) (thread : ℕ) → Waits (system_call s thread) → WaitingNumber s thread (call_of (read (registers_of s thread) a7))
unfolding system_call
system_call-waits s thread waits = calls_known-waits s thread (read (registers_of s thread) a7) (call_of (read (registers_of s thread) a7)) waits

-- ---- no other instruction is an ECALL

abbrev IsEcall : Exec → Bool
IsEcall Next = false
IsEcall Ecall = true
IsEcall (Trap cause) = false
IsEcall (Memory address access) = false

jumps-other : (r : RegisterFile) (content : Content) (written : RegisterFile) (target : ℕ) → IsEcall (jumps r content written target).exec ≡ false
jumps-other r content written target =
    elim (target % 4 == 0) as (λ b. IsEcall (if b then goes_on (record written { pc = target }) content else stays r content (Trap Misaligned)).exec ≡ false) [
      | true ↦ refl
      | false ↦ refl
    ]

branches-other : (r : RegisterFile) (content : Content) (taken : Bool) (target : ℕ) → IsEcall (branches r content taken target).exec ≡ false
branches-other r content true target = jumps-other r content r target
branches-other r content false target = refl

loads-other : (r : RegisterFile) (content : Content) (op : LoadOp) (rd : Register) (n : Result ℕ MemoryFault) → IsEcall (loads r content op rd n).exec ≡ false
loads-other r content op rd (Ok n) = refl
loads-other r content op rd (Err fault) = refl

stores-other : (r : RegisterFile) (content : Content) (after : Result Content MemoryFault) → IsEcall (stores r content after).exec ≡ false
stores-other r content (Ok after) = refl
stores-other r content (Err fault) = refl

other : {A : Type 0} (e : Exec) → IsEcall e ≡ false → e ≡ Ecall → A
other e isnt is = absurd (let clash : false ≡ true = sym isnt ∙ ap IsEcall is in cc)

only-ecall : (r : RegisterFile) (content : Content) (i : Instr) → (effect r content i).exec ≡ Ecall → i ≡ instrs.Ecall
unfolding effect
only-ecall r content (instrs.Upper op rd immediate) is = other _ refl is
only-ecall r content (instrs.Jal rd offset) is = other _ (jumps-other r content (write r rd (next_pc r)) (plus r.pc offset)) is
only-ecall r content (instrs.Jalr rd rs1 offset) is =
    let target = plus (read r rs1) offset in other _ (jumps-other r content (write r rd (next_pc r)) (target - target % 2)) is
only-ecall r content (instrs.Branch op rs1 rs2 offset) is =
    other _ (branches-other r content (is_taken op (read r rs1) (read r rs2)) (plus r.pc offset)) is
only-ecall r content (instrs.Load op rd rs1 offset) is =
    other _ (loads-other r content op rd (loaded content accesses.Load (load_size op) (plus (read r rs1) offset))) is
only-ecall r content (instrs.Store op rs1 rs2 offset) is =
    other _ (stores-other r content (stored content (store_size op) (plus (read r rs1) offset) (read r rs2))) is
only-ecall r content (instrs.Immediate op rd rs1 immediate) is = other _ refl is
only-ecall r content (instrs.Shift op rd rs1 amount) is = other _ refl is
only-ecall r content (instrs.Registers op rd rs1 rs2) is = other _ refl is
only-ecall r content instrs.Fence is = other _ refl is
only-ecall r content instrs.Ecall is = refl
only-ecall r content instrs.Ebreak is = other _ refl is

-- ---- steps

abbrev AtEcall : State → ℕ → Exec → Type 0
AtEcall s thread exec = (exec ≡ Ecall) × WaitingNumber s thread (call_of (read (registers_of s thread) a7))

after_effect-waits : (s : State) (thread pc : ℕ) (r : RegisterFile) (exec : Exec) (next : State) → Waits (after_effect s thread pc r exec (next, Plain)) →
    AtEcall s thread exec
after_effect-waits s thread pc r Next next waits = no-wait waits
after_effect-waits s thread pc r Ecall next waits = (refl, system_call-waits s thread waits)
after_effect-waits s thread pc r (Trap cause) next waits = no-wait waits
after_effect-waits s thread pc r (Memory address access) next waits = no-wait waits

runs_decoded-waits : (s : State) (thread : ℕ) (i : Option Instr) → Waits (runs_decoded s thread i)
    → (i ≡ Some instrs.Ecall) × WaitingNumber s thread (call_of (read (registers_of s thread) a7))
runs_decoded-waits s thread None waits = no-wait waits
runs_decoded-waits s thread (Some i) waits =
    let r = registers_of s thread in
    let e = effect r (content_of s thread) i in
    let at = after_effect-waits s thread r.pc r e.exec (with_content (with_registers s thread e.registers) e.content) waits in
    (ap Some (only-ecall r (content_of s thread) i at.0), at.1)

abbrev StandsAt : State → ℕ → Result ℕ MemoryFault → Type 0
StandsAt s thread fetched =
    (word : ℕ) × (fetched ≡ Ok word) × (decoded word ≡ Some instrs.Ecall) × WaitingNumber s thread (call_of (read (registers_of s thread) a7))

runs_fetched-waits : (s : State) (thread : ℕ) (fetched : Result ℕ MemoryFault) → Waits (runs_fetched s thread fetched) → StandsAt s thread fetched
runs_fetched-waits s thread (Ok word) waits = let at = runs_decoded-waits s thread (decoded word) waits in (word, refl, at.0, at.1)
runs_fetched-waits s thread (Err failed) waits = no-wait waits

runs-waits : (s : State) (thread : ℕ) → Waits (runs s thread) → StandsAt s thread (loaded (content_of s thread) Fetch Word (registers_of s thread).pc)
unfolding runs
runs-waits s thread waits = runs_fetched-waits s thread (loaded (content_of s thread) Fetch Word (registers_of s thread).pc) waits

stepped-waits : (s : State) (thread : Option ℕ) → current s ≡ thread → is_wait (option_map_or (ran s) thread (s, Idle)).1 ≡ true → StandsAtWait s
stepped-waits s None is waits = no-wait waits
stepped-waits s (Some thread) is waits =
    let at = runs-waits s thread waits in
    record { thread = thread; word = at.0; call = at.3.0; runs = is; fetched = at.1; is_ecall = at.2; named = at.3.1; waits = at.3.2 }

pub only-waits : (s : State) (event : Event) → is_wait (step s event).1 ≡ true → (event ≡ Step) × StandsAtWait s
unfolding step
only-waits s Step waits = (refl, stepped-waits s (current s) refl waits)
only-waits s Tick waits = no-wait waits
only-waits s (Irq irq_line) waits = no-wait waits
only-waits s (Write address word) waits = no-wait waits
only-waits s (Read address) waits = no-wait waits

-- ---- the waiting calls are waits, faults or errors

abbrev Settled : Outcome → Type 0
Settled o = (is_wait (Ran 0 0 o) || is_fault (Ran 0 0 o) || is_error (Ran 0 0 o)) ≡ true

receive_by-settles : (s : State) (thread : ℕ) (capability : Cap) → Settled (receive_by s thread Receiving capability).1
receive_by-settles s thread Empty = refl
receive_by-settles s thread (Untyped offset bits watermark) = refl
receive_by-settles s thread (Endpoint offset r badge) =
    elim (may_read r) as (λ b. Settled (if b then receive_on_endpoint s thread Receiving offset else lacks_capability s thread 1 MissingCapability).1)
    [ true ↦ refl | false ↦ refl ]
receive_by-settles s thread (Notification offset r badge) =
    elim (may_read r) as (λ b. Settled (if b then receive_on_notification s thread Receiving offset else lacks_capability s thread 1 MissingCapability).1)
    [ true ↦ refl | false ↦ refl ]
receive_by-settles s thread (CNode offset radix guard) = refl
receive_by-settles s thread (Frame offset r mapping) = refl
receive_by-settles s thread (PageTable offset mapping) = refl
receive_by-settles s thread (Tcb offset) = refl
receive_by-settles s thread (RootTable offset) = refl
receive_by-settles s thread InterruptControl = refl
receive_by-settles s thread (InterruptHandler irq_line) = refl

receive_named-settles : (s : State) (thread : ℕ) (named : Result ℕ LookupFailure) → Settled (receive_named s thread Receiving named).1
receive_named-settles s thread (Ok slot) = receive_by-settles s thread (capability_at s.slots slot)
receive_named-settles s thread (Err failure) = refl

abbrev Waiting : SendCall → Type 0
Waiting kind = (s : State) (thread endpoint badge : ℕ) (grant : Bool) → Settled (send_on s thread kind endpoint badge grant).1

send_named-settles : (s : State) (thread : ℕ) (kind : SendCall) → Waiting kind → NamesEndpoint s thread →
    Settled (send_named s thread kind (named_slot s thread)).1
send_named-settles s thread kind waiting names =
    subst (λ named. Settled (send_named s thread kind named).1) (sym names.found)
    (subst (λ capability. Settled (send_by s thread kind names.slot capability).1) (sym names.holds)
    (elim (may_write names.allowed)
    as (λ b. Settled (if b then send_on s thread kind names.offset names.badge (may_grant_reply names.allowed) else
    refused s thread kind InvalidCapability).1) [
      | true ↦ waiting s thread names.offset names.badge (may_grant_reply names.allowed)
      | false ↦ refl
    ]))

calls-settle : (s : State) (thread : ℕ) (call : SystemCall) → IsWaitingCall s thread call → Settled (calls s thread call).1
calls-settle s thread _ receives = receive_named-settles s thread (named_slot s thread)
calls-settle s thread _ replies_and_receives = receive_named-settles (reply s thread) thread (named_slot (reply s thread) thread)
calls-settle s thread _ (calls_endpoint names) = send_named-settles s thread Calling (λ _ _ _ _ _. refl) names
calls-settle s thread _ (sends_to_endpoint names) = send_named-settles s thread Sending (λ _ _ _ _ _. refl) names

system_call-settles : (s : State) (at : StandsAtWait s) → Settled (system_call s at.thread).1
unfolding system_call
system_call-settles s at =
    subst (λ named. Settled (calls_known s at.thread (read (registers_of s at.thread) a7) named).1) (sym at.named) (calls-settle s at.thread at.call at.waits)

decoded-settles : (s : State) (at : StandsAtWait s) → Settled (runs_decoded s at.thread (Some instrs.Ecall)).1
unfolding effect
decoded-settles s at = system_call-settles s at

runs-settles : (s : State) (at : StandsAtWait s) → Settled (runs s at.thread).1
unfolding runs
runs-settles s at =
    subst (λ fetched. Settled (runs_fetched s at.thread fetched).1) (sym at.fetched)
    (subst (λ i. Settled (runs_decoded s at.thread i).1) (sym at.is_ecall) (decoded-settles s at))

pub waits-settle : (s : State) → StandsAtWait s → (is_wait (step s Step).1 || is_fault (step s Step).1 || is_error (step s Step).1) ≡ true
unfolding step
waits-settle s at =
    subst (λ thread. let label = (option_map_or (ran s) thread (s, Idle)).1 in (is_wait label || is_fault label || is_error label) ≡ true) (sym at.runs)
    (runs-settles s at)
