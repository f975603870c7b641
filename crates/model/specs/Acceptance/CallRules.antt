-- The system calls that a program may make: what has to be known of each, and what is known after it.
-- seL4 Reference Manual, "System Calls", for the calls; which of them are accepted is this project's own.
use Rattle.std.specs.Prelude.{ℕ, ◌==◌, ◌-◌, ◌/◌, ◌%◌, ◌^◌, Bool, true, false, not, ◌&&◌, Option, Some, None, Result, Ok, Err, List, [], ◌∷◌, take}
use Rattle.std.specs.Prelude.{if◌then◌else◌}
use Rattle.model.specs.declared.capabilities.Cap.{Cap}
use Rattle.model.specs.declared.capabilities.Cap.TheVariants.{Endpoint, Notification, Frame}
use Rattle.model.specs.declared.errors.KError.{KError}
use Rattle.model.specs.declared.errors.KError.TheVariants.{IllegalOperation}
use Rattle.model.specs.declared.instructions.Register.{Register}
use Rattle.model.specs.declared.invocations.CNodeCall.{CNodeCall}
use Rattle.model.specs.declared.invocations.CNodeCall.TheVariants.{Copy, Mint, Move, Mutate, Delete, Revoke}
use Rattle.model.specs.declared.invocations.FrameCall.TheVariants.{MapFrame, UnmapFrame}
use Rattle.model.specs.declared.invocations.HandlerCall.TheVariants.{Acknowledge}
use Rattle.model.specs.declared.invocations.Invocation.{Invocation}
use Rattle.model.specs.declared.invocations.Invocation.TheVariants.{OnUntyped, OnCNode, OnFrame, OnHandler}
use Rattle.model.specs.declared.lookup_failures.LookupFailure.{LookupFailure}
use Rattle.model.specs.declared.ranges.Range.{Range}
use Rattle.model.specs.declared.refusals.Point.{Point}
use Rattle.model.specs.declared.refusals.Refusal.{Refusal}
use Rattle.model.specs.declared.refusals.Refusal.TheVariants.{CallNotConstant, CallRefused, CapNotThere, PoolLost, PromiseNotKept}
use Rattle.model.specs.declared.rights.Rights.{Rights}
use Rattle.model.specs.Kernel.Arguments.{Call, argument_slot}
use Rattle.model.specs.Kernel.CallForms.{form_called}
use Rattle.model.specs.Capabilities.CapabilityKinds.{is_untyped}
use Rattle.model.specs.Images.Format.{◌>>=◌}
use Rattle.model.specs.Images.Image.{Image, ImagePromise, Thread}
use Rattle.model.specs.declared.entries.PromisedWord.{PromisedWord}
use Rattle.model.specs.Kernel.Invocations.{perform}
use Rattle.model.specs.Kernel.Retype.{NewObject, NewEndpoint, NewNotification, NewFrame, type_of}
use Rattle.model.specs.Capabilities.Lookup.{called_slot}
use Rattle.model.specs.Kernel.Messages.{a0, a1, a7, extra_capabilities_of, label_of, length_of, word_registers}
use Rattle.model.specs.Acceptance.NotedKernel.{noted_after, noted_kernel, noted_root}
use Rattle.model.specs.Acceptance.NotedStates.{NotedSlot, PointState}
use Rattle.model.specs.Images.Places.{offset_of}
use Rattle.model.specs.Acceptance.Promises.{keeps_promise, promise_at, with_words}
use Rattle.model.specs.Acceptance.RangeRules.{is_single, range}
use Rattle.model.specs.Acceptance.Ranges.{full, single, range_of, with_range}
use Rattle.model.specs.Capabilities.Rights.{may_grant_reply, may_read, may_write}
use Rattle.model.specs.Capabilities.Slots.{Slots, capability_at}
use Rattle.model.specs.Kernel.Steps.{SendCall, Calling, Sending, Trying, Receiving, Polling, SystemCall, Sends, Receives, RepliesAndReceives, Replies, Yields}
use Rattle.model.specs.Kernel.Steps.{PutsCharacter, call_of}

-- ---- what is known after a call

pub record AfterCall : Type 0 where
  pub ranges : List Range
  pub slots : List NotedSlot
  -- whether the count of instructions starts again at the call
  pub is_wait : Bool
  -- the registers that the call writes
  pub written : List Register

-- ---- checks

abbrev pub demand : Bool → Refusal → Result (Unit {0}) Refusal
demand test refusal = if test then Ok tt else Err refusal

abbrev pub one_value : Point → Range → Result ℕ Refusal
one_value at r = if is_single r then Ok r.low else Err (CallNotConstant at)

-- the value of a register that has to have one
abbrev pub known : Point → PointState → Register → Result ℕ Refusal
known at state x = one_value at (range_of state.ranges x)

unfoldable pub all_known : Point → PointState → List Register → Result (List ℕ) Refusal
all_known at state [] = Ok []
all_known at state (x ∷ xs) = do
  value ← known at state x
  values ← all_known at state xs
  Ok (value ∷ values)

-- what the kernel refuses
abbrev pub kernel_allows : {A : Type 0} → Point → Result A KError → Result A Refusal
kernel_allows at (Ok x) = Ok x
kernel_allows at (Err error) = Err (CallRefused at error)

abbrev pub found_slot : Point → Result ℕ LookupFailure → Result ℕ Refusal
found_slot at (Ok slot) = Ok slot
found_slot at (Err failure) = Err (CapNotThere at)

-- ---- what calls write

-- any badge, or any word of a notification
abbrev pub badges : Range
badges = range 0 (2 ^ 28 - 1)

-- a message: what a0 becomes, any info, these promised words, and any others
abbrev pub with_message : List Range → Range → List PromisedWord → List Range
with_message ranges badge words = with_words (with_range (with_range ranges a0 badge) a1 full) word_registers words

abbrev pub with_answer : List Range → List Range
with_answer ranges = with_range (with_range ranges a0 (single 0)) a1 (single 0)

abbrev pub message_registers : List Register
message_registers = a0 ∷ a1 ∷ word_registers

abbrev pub known_behind : PointState → List Range → Bool → List Register → AfterCall
known_behind state ranges is_wait written = record { ranges = ranges; slots = state.slots; is_wait = is_wait; written = written }

-- registers and slots stay
abbrev pub changes_nothing : PointState → Bool → AfterCall
changes_nothing state is_wait = known_behind state state.ranges is_wait []

-- ---- receives

-- a message that is received, by what is promised of it
abbrev pub with_received : List Range → Option ImagePromise → List Range
with_received ranges None = with_message ranges badges []
with_received ranges (Some p) = with_message ranges (range p.header.badge_low p.header.badge_high) p.words

-- A receive that waits gets a message. One that does not may get none, and then nothing is promised.
abbrev pub promise_received : Image → Bool → ℕ → Option ImagePromise
promise_received image is_wait endpoint = if is_wait then promise_at image endpoint else None

-- Recv and ReplyRecv wait, NBRecv does not
abbrev pub receive_rule : Image → Point → PointState → Bool → Cap → Result AfterCall Refusal
receive_rule image at state is_wait (Endpoint offset r badge) = do
  _ ← demand (may_read r) (CapNotThere at)
  Ok (known_behind state (with_received state.ranges (promise_received image is_wait offset)) is_wait message_registers)
receive_rule image at state is_wait (Notification offset r badge) = do
  _ ← demand (may_read r) (CapNotThere at)
  Ok (known_behind state (with_range state.ranges a0 badges) is_wait (a0 ∷ []))
receive_rule image at state is_wait _ = Err (CapNotThere at)

-- ---- invocations

-- whether the slot that an argument names holds such a capability
abbrev pub names_such : (Cap → Bool) → Slots → Result ℕ KError → Bool
names_such test slots (Ok slot) = test (capability_at slots slot)
names_such test slots (Err error) = false

-- Delete or Move of untyped memory
abbrev pub loses_pool : Slots → Call → Invocation → Bool
loses_pool slots call (OnCNode (Delete name)) = names_such is_untyped slots (argument_slot slots call.capability name)
loses_pool slots call (OnCNode (Move destination source)) = names_such is_untyped slots (argument_slot slots call.root source)
loses_pool slots call _ = false

-- endpoints, notifications and frames
abbrev pub may_travel : Cap → Bool
may_travel (Endpoint offset r badge) = true
may_travel (Notification offset r badge) = true
may_travel (Frame offset r mapping) = true
may_travel _ = false

-- Copy, Mint and Move of what may travel; Delete and Revoke
abbrev pub may_call_cnode : Slots → Cap → CNodeCall → Bool
may_call_cnode slots root (Copy destination source rights_word) = names_such may_travel slots (argument_slot slots root source)
may_call_cnode slots root (Mint destination source rights_word payload) = names_such may_travel slots (argument_slot slots root source)
may_call_cnode slots root (Move destination source) = names_such may_travel slots (argument_slot slots root source)
may_call_cnode slots root (Mutate destination source payload) = false
may_call_cnode slots root (Delete name) = true
may_call_cnode slots root (Revoke name) = true

-- the types of new objects that a program may make: endpoints, notifications and frames
abbrev pub may_make : Option NewObject → Bool
may_make (Some NewEndpoint) = true
may_make (Some NewNotification) = true
may_make (Some NewFrame) = true
may_make _ = false

-- Retype to what a program may make; frames are mapped without execute; interrupts are acknowledged
abbrev pub may_call : Slots → Call → Invocation → Bool
may_call slots call (OnUntyped memory retyped) = may_make (type_of retyped.kind retyped.size)
may_call slots call (OnCNode c) = may_call_cnode slots call.root c
may_call slots call (OnFrame held (MapFrame root address rights_word)) = rights_word / 4 % 2 == 0
may_call slots call (OnFrame held UnmapFrame) = true
may_call slots call (OnHandler irq_line Acknowledge) = true
may_call slots call _ = false

-- what an invocation leaves
abbrev pub invoked : Image → Thread → Point → PointState → Call → Invocation → Bool → Result AfterCall Refusal
invoked image t at state call c answers =
    let s = noted_kernel image t state.slots in
    do
      after ← kernel_allows at (perform s call c)
      _ ← demand (not (loses_pool s.slots call c)) (PoolLost at)
      _ ← demand (may_call s.slots call c) (CallRefused at IllegalOperation)
      Ok (record {
        ranges = if answers then with_answer state.ranges else state.ranges;
        slots = noted_after image t after.slots;
        is_wait = false;
        written = if answers then a0 ∷ a1 ∷ [] else [];
      })

-- Whether capabilities come along, the label and the number of words are looked at before the words are.
abbrev pub invocation : Image → Thread → Point → PointState → Call → Bool → Result AfterCall Refusal
invocation image t at state call answers = do
  info ← known at state a1
  form ← kernel_allows at (form_called call.capability (label_of info) (extra_capabilities_of info) (length_of info))
  words ← all_known at state (take form.count word_registers)
  invoked image t at state call (form.call words) answers

-- ---- Call, Send and NBSend

-- Call has an answer
abbrev pub answers : SendCall → Bool
answers Calling = true
answers Sending = false
answers Trying = false

-- a message keeps what is promised; its info word has to be known, whatever that is
abbrev pub promise_rule : Point → PointState → ℕ → Option ImagePromise → Result (Unit {0}) Refusal
promise_rule at state badge None = Ok tt
promise_rule at state badge (Some p) = do
  info ← known at state a1
  demand (keeps_promise state.ranges info badge p) (PromiseNotKept at)

-- who calls needs the right to get a reply, too
abbrev pub may_send : SendCall → Rights → Bool
may_send Calling r = may_write r && may_grant_reply r
may_send Sending r = may_write r
may_send Trying r = may_write r

-- what is known after a message was sent: after a Call, the reply
abbrev pub after_message : PointState → SendCall → AfterCall
after_message state Calling = known_behind state (with_message state.ranges (single 0) []) true message_registers
after_message state Sending = changes_nothing state true
after_message state Trying = changes_nothing state false

abbrev pub sends_message : Point → PointState → SendCall → Rights → ℕ → Option ImagePromise → Result AfterCall Refusal
sends_message at state kind r badge promise = do
  _ ← demand (may_send kind r) (CapNotThere at)
  _ ← promise_rule at state badge promise
  Ok (after_message state kind)

abbrev pub sends_signal : Point → PointState → SendCall → Rights → Result AfterCall Refusal
sends_signal at state kind r = do
  _ ← demand (may_write r) (CapNotThere at)
  Ok (if answers kind then known_behind state (with_answer state.ranges) false (a0 ∷ a1 ∷ []) else changes_nothing state false)

abbrev pub send_rule : Image → Thread → Point → PointState → SendCall → ℕ → Cap → Result AfterCall Refusal
send_rule image t at state kind slot (Endpoint offset r badge) = sends_message at state kind r badge (promise_at image offset)
send_rule image t at state kind slot (Notification offset r badge) = sends_signal at state kind r
send_rule image t at state kind slot capability =
    let call : Call = record { root = noted_root image t; caller = Some (offset_of image t.header.tcb); slot = slot; capability = capability } in
    invocation image t at state call (answers kind)

-- ---- the whole

-- what the rule for the capability that a0 names says
abbrev pub by_capability : Image → Thread → Point → PointState → (ℕ → Cap → Result AfterCall Refusal) → Result AfterCall Refusal
by_capability image t at state rule =
    let slots = (noted_kernel image t state.slots).slots in
    do
      address ← known at state a0
      slot ← found_slot at (called_slot slots (noted_root image t) address)
      rule slot (capability_at slots slot)

-- Reply, Yield and PutChar need nothing, and change neither registers nor slots.
abbrev pub by_call : Image → Thread → Point → PointState → SystemCall → Result AfterCall Refusal
by_call image t at state (Sends kind) = by_capability image t at state (send_rule image t at state kind)
by_call image t at state (Receives Receiving) = by_capability image t at state (λ slot. receive_rule image at state true)
by_call image t at state (Receives Polling) = by_capability image t at state (λ slot. receive_rule image at state false)
by_call image t at state RepliesAndReceives = by_capability image t at state (λ slot. receive_rule image at state true)
by_call image t at state Replies = Ok (changes_nothing state false)
by_call image t at state Yields = Ok (changes_nothing state false)
by_call image t at state PutsCharacter = Ok (changes_nothing state false)

abbrev pub by_number : Image → Thread → Point → PointState → Option SystemCall → Result AfterCall Refusal
by_number image t at state (Some call) = by_call image t at state call
by_number image t at state None = Err (CallRefused at IllegalOperation)

-- What is known after the system call at a point, or why it is refused.
unfoldable pub after_call : Image → Thread → Point → PointState → Result AfterCall Refusal
after_call image t at state = do
  number ← known at state a7
  by_number image t at state (call_of number)
