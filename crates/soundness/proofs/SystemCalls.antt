-- Every system call of the thread that runs keeps soundness.
use Rattle.std.proofs.Common.{ℕ, zero, suc, ◌≡◌, ◌≢◌, ◌∙◌, ◌==◌, ◌||◌, ◌+◌, ◌-◌, ◌/◌, ◌%◌, ◌^◌, ◌<◌, ◌≤◌, Bool, true, false, not, is_some, nat_lt}
use Rattle.std.proofs.Common.{if◌then◌else◌, List, [], ◌∷◌, Option, Some, None, option_map, Result, Ok, Err, refl, sym, ap, subst, arith}
use Rattle.std.specs.Prelude.{All, bit_or}
use Rattle.std.specs.Option.{option_map_or}
use Rattle.std.proofs.lemmas.List.Elements.{All-cons, All-nil}
use Rattle.model.specs.declared.capabilities.Cap.{Cap}
use Rattle.model.specs.declared.capabilities.Cap.TheVariants.{Empty, Untyped, Endpoint, Notification, CNode, Frame, PageTable, Tcb, RootTable, InterruptControl}
use Rattle.model.specs.declared.capabilities.Cap.TheVariants.{InterruptHandler}
use Rattle.model.specs.declared.errors.KError.{KError}
use Rattle.model.specs.declared.errors.KError.TheVariants.{InvalidArgument, InvalidCapability, IllegalOperation, RangeError, AlignmentError, FailedLookup}
use Rattle.model.specs.declared.errors.KError.TheVariants.{TruncatedMessage, DeleteFirst, RevokeFirst, NotEnoughMemory}
use Rattle.model.specs.declared.lookup_failures.LookupFailure.{LookupFailure}
use Rattle.model.specs.declared.lookup_failures.LookupFailure.TheVariants.{InvalidRoot, MissingCapability, DepthMismatch, GuardMismatch}
use Rattle.model.specs.Capabilities.CapabilityWords.{IsCapability}
use Rattle.model.specs.Capabilities.Lookup.{called, go_on, is_cnode, lookup, lookup_within, resolve}
use Rattle.model.specs.Capabilities.LookupNumbers.{bits_left_of, failure_number}
use Rattle.model.specs.Capabilities.Rights.{may_grant_reply, may_read, may_write}
use Rattle.model.specs.Capabilities.Slots.{IsFull, Slots, capability_at, is_full}
use Rattle.model.specs.Kernel.Arguments.{Call}
use Rattle.model.specs.Kernel.Faults.{capability_fault, unknown_call}
use Rattle.model.specs.Kernel.Invocations.{invoke}
use Rattle.model.specs.Kernel.Kinds.{kind_at, kind_of, object_named}
use Rattle.model.specs.Kernel.Messages.{Message, a0, a1, a7, bytes_between, deliver_with, deliver_word, extra_capabilities_of, info_word, message_between}
use Rattle.model.specs.Kernel.Messages.{message_of, passes, passes_with, replied, reply, resumption, signal, signals, with_caller, with_registers}
use Rattle.model.specs.Kernel.Retype.{NewThread, NewEndpoint, NewNotification}
use Rattle.model.specs.Kernel.Scheduling.{block, is_runnable, wake}
use Rattle.model.specs.Kernel.Soundness.{awaits_answer, IsSound}
use Rattle.model.specs.Kernel.State.{State, Status, Inactive, Runnable, Blocked, AwaitsReply, AwaitsHandler, Object, ThreadObject, EndpointObject}
use Rattle.model.specs.Kernel.State.{NotificationObject, CNodeObject, FrameObject, PageTableObject, RootTableObject, BySend, ByCall, as_thread, cspace_slot}
use Rattle.model.specs.Kernel.State.{notification_at, thread_at, with_notification}
use Rattle.model.specs.Kernel.Steps.{after_invocation, answered, call_of, calls, calls_known, completed, cspace_of, invokes, lacks_capability, named_slot}
use Rattle.model.specs.Kernel.Steps.{receive_by, receive_named, receive_on_endpoint, receive_on_notification, refused, registers_of, send_by, send_named}
use Rattle.model.specs.Kernel.Steps.{send_on, sender, sends_nothing, signal_on, system_call}
use Rattle.model.specs.declared.system_calls.SendCall.{SendCall}
use Rattle.model.specs.declared.system_calls.SendCall.TheVariants.{Calling, Sending, Trying}
use Rattle.model.specs.declared.system_calls.ReceiveCall.{ReceiveCall}
use Rattle.model.specs.declared.system_calls.ReceiveCall.TheVariants.{Receiving, Polling}
use Rattle.model.specs.declared.system_calls.SystemCall.{SystemCall}
use Rattle.model.specs.declared.system_calls.SystemCall.TheVariants.{Sends, Receives, RepliesAndReceives, Replies, Yields, PutsCharacter}
use Rattle.model.specs.Machine.Effects.{advanced}
use Rattle.model.specs.Machine.ProgramMemory.{RegisterFile, read, write}
use Rattle.model.specs.Shared.Labels.{error_number}
use Rattle.soundness.specs.Calls.{held, of_slot}
use Rattle.soundness.specs.Running.{IsRunning, RegistersAreSound}
use Rattle.soundness.proofs.Delivered.{own-message, read-sound}
use Rattle.soundness.proofs.Events.{fault-whole}
use Rattle.soundness.proofs.Grants.{thread-kinds}
use Rattle.soundness.proofs.Invoked.{invoke-whole}
use Rattle.soundness.proofs.Lookups.{passed}
use Rattle.soundness.proofs.Messages.{deliver-other, dropped-runs, notification-object, poll-whole, receive-whole, registers-other, reply-whole, running-object}
use Rattle.soundness.proofs.Messages.{send-whole, signal-whole, try_to_receive-whole, try_to_send-whole, wait-whole, wake-other}
use Rattle.soundness.proofs.Moving.{own_of, put-here, put-other}
use Rattle.soundness.proofs.QueueSteps.{first-waiter}
use Rattle.soundness.proofs.Registers.{registers-of, written-sound}
use Rattle.soundness.proofs.ThreadCalls.{fine-of, passes-whole, registers-whole, yielded-whole}

-- ---- numbers in messages of faults

abbrev Found : Type 0
Found = Result (ℕ × ℕ) LookupFailure

-- a lookup fails with no more bits left than it had
resolve-left : (radix guard address left : ℕ) (failure : LookupFailure) → resolve radix guard address left ≡ Err failure → bits_left_of failure ≤ left
resolve-left radix guard address left failure is =
    let size : ℕ = guard % 2 ^ 5 in
    let rest : ℕ = left - (size + radix) in
    let found : ℕ × ℕ = (address / 2 ^ rest % 2 ^ radix, rest) in
    elim (nat_lt left size) as (λ b. ◌≡◌ {A = Found} (if b then Err (GuardMismatch left) else
    if not (address / 2 ^ (left - size) % 2 ^ size == guard / 2 ^ 5) then Err (GuardMismatch left)
    else if nat_lt left (size + radix) then Err (DepthMismatch left) else Ok found) (Err failure) → bits_left_of failure ≤ left) [
      | true ↦ λ h. let e : GuardMismatch left ≡ failure = cc h in subst (λ (f : LookupFailure). bits_left_of f ≤ left) e (omega arith)
      | false ↦ elim (not (address / 2 ^ (left - size) % 2 ^ size == guard / 2 ^ 5)) as (λ b. ◌≡◌ {A = Found} (if b then Err (GuardMismatch left)
          else if nat_lt left (size + radix) then Err (DepthMismatch left) else Ok found) (Err failure) → bits_left_of failure ≤ left) [
            | true ↦ λ h. let e : GuardMismatch left ≡ failure = cc h in subst (λ (f : LookupFailure). bits_left_of f ≤ left) e (omega arith)
            | false ↦ elim (nat_lt left (size + radix)) as (λ b. ◌≡◌ {A = Found} (if b then Err (DepthMismatch left) else Ok found) (Err failure) →
                bits_left_of failure ≤ left) [
                  | true ↦ λ h. let e : DepthMismatch left ≡ failure = cc h in subst (λ (f : LookupFailure). bits_left_of f ≤ left) e (omega arith)
                  | false ↦ λ h. let e : ◌≡◌ {A = Found} (Ok found) (Err failure) = h in absurd cc
                ]
          ]
    ] is

resolve-less : (radix guard address left : ℕ) (place : ℕ × ℕ) → resolve radix guard address left ≡ Ok place → place.1 ≤ left
resolve-less radix guard address left place is =
    let size : ℕ = guard % 2 ^ 5 in
    let rest : ℕ = left - (size + radix) in
    let found : ℕ × ℕ = (address / 2 ^ rest % 2 ^ radix, rest) in
    let last : Found = if nat_lt left (size + radix) then Err (DepthMismatch left) else Ok found in
    let second : Found = if not (address / 2 ^ (left - size) % 2 ^ size == guard / 2 ^ 5) then Err (GuardMismatch left) else last in
    let one = passed (nat_lt left size) (GuardMismatch left) second place is in
    let two = passed (not (address / 2 ^ (left - size) % 2 ^ size == guard / 2 ^ 5)) (GuardMismatch left) last place one in
    let three : ◌≡◌ {A = Found} (Ok found) (Ok place) = passed (nat_lt left (size + radix)) (DepthMismatch left) (Ok found) place two in
    let e : found ≡ place = cc three in
    let bits : rest ≡ place.1 = ap (λ (p : ℕ × ℕ). p.1) e in
    omega (arith, bits)

goes-left : (slots : Slots) (slot rest address n : ℕ) (failure : LookupFailure) (stops : Bool)
    → (lookup_within n slots (capability_at slots slot) address rest ≡ Err failure → bits_left_of failure ≤ 32)
    → ◌≡◌ {A = Found} (if stops then Ok (slot, rest) else lookup_within n slots (capability_at slots slot) address rest) (Err failure) →
    bits_left_of failure ≤ 32
goes-left slots slot rest address n failure true later is = let e : ◌≡◌ {A = Found} (Ok (slot, rest)) (Err failure) = is in absurd cc
goes-left slots slot rest address n failure false later is = later is

bad-root : (failure : LookupFailure) → ◌≡◌ {A = Found} (Err InvalidRoot) (Err failure) → bits_left_of failure ≤ 32
bad-root failure is = let e : InvalidRoot ≡ failure = cc is in subst (λ (f : LookupFailure). bits_left_of f ≤ 32) e (omega arith)

within-left : (n : ℕ) (slots : Slots) (root : Cap) (address left : ℕ) (failure : LookupFailure) → left ≤ 32
    → lookup_within n slots root address left ≡ Err failure → bits_left_of failure ≤ 32
unfolding lookup_within
within-left zero slots root address left failure few is =
    let e : DepthMismatch left ≡ failure = (let f : ◌≡◌ {A = Found} (Err (DepthMismatch left)) (Err failure) = is in cc) in
    subst (λ (f : LookupFailure). bits_left_of f ≤ 32) e few
within-left (suc n) slots (CNode offset radix guard) address left failure few is =
    elim (resolve radix guard address left) as (λ r. resolve radix guard address left ≡ r →
    go_on slots offset (λ held rest. lookup_within n slots held address rest) r ≡ Err failure → bits_left_of failure ≤ 32) [
      | Err other ↦ λ resolved so.
          let e : other ≡ failure = (let f : ◌≡◌ {A = Found} (Err other) (Err failure) = so in cc) in
          let less = resolve-left radix guard address left other resolved in
          subst (λ (f : LookupFailure). bits_left_of f ≤ 32) e (omega (arith, less, few))
      | Ok place ↦ λ resolved so.
          let less = resolve-less radix guard address left place resolved in
          goes-left slots (offset / 16 + place.0) place.1 address n failure (place.1 == 0 || not (is_cnode (capability_at slots (offset / 16 + place.0))))
          (within-left n slots (capability_at slots (offset / 16 + place.0)) address place.1 failure (omega (arith, less, few))) so
    ] refl is
within-left (suc n) slots Empty address left failure few is = bad-root failure is
within-left (suc n) slots (Untyped a b d) address left failure few is = bad-root failure is
within-left (suc n) slots (Endpoint a r b) address left failure few is = bad-root failure is
within-left (suc n) slots (Notification a r b) address left failure few is = bad-root failure is
within-left (suc n) slots (Frame a r m) address left failure few is = bad-root failure is
within-left (suc n) slots (PageTable a m) address left failure few is = bad-root failure is
within-left (suc n) slots (Tcb a) address left failure few is = bad-root failure is
within-left (suc n) slots (RootTable a) address left failure few is = bad-root failure is
within-left (suc n) slots InterruptControl address left failure few is = bad-root failure is
within-left (suc n) slots (InterruptHandler a) address left failure few is = bad-root failure is

called-left : (slots : Slots) (found : Found) (failure : LookupFailure) → ((f : LookupFailure) → found ≡ Err f → bits_left_of f ≤ 32)
    → called slots found ≡ Err failure → bits_left_of failure ≤ 32
called-left slots (Ok found) failure few is =
    elim (is_full slots found.0) as (λ b. ◌≡◌ {A = Result ℕ LookupFailure} (if b then Ok found.0 else Err MissingCapability) (Err failure) →
    bits_left_of failure ≤ 32) [
      | true ↦ λ so. let e : ◌≡◌ {A = Result ℕ LookupFailure} (Ok found.0) (Err failure) = so in absurd cc
      | false ↦ λ so. let e : MissingCapability ≡ failure = cc so in subst (λ (f : LookupFailure). bits_left_of f ≤ 32) e (omega arith)
    ] is
called-left slots (Err other) failure few is =
    let e : other ≡ failure = (let f : ◌≡◌ {A = Result ℕ LookupFailure} (Err other) (Err failure) = is in cc) in
    subst (λ (f : LookupFailure). bits_left_of f ≤ 32) e (few other refl)

pub named-left : (s : State) (thread : ℕ) (failure : LookupFailure) → named_slot s thread ≡ Err failure → bits_left_of failure ≤ 32
named-left s thread failure is =
    let address = read (registers_of s thread) a0 in
    called-left s.slots (lookup s.slots (cspace_of s thread) address 32) failure
    (λ f so. within-left (suc 32) s.slots (cspace_of s thread) address 32 f (omega arith) so) is

-- the slot that is named is full
pub called-full : (slots : Slots) (found : Found) (slot : ℕ) → called slots found ≡ Ok slot → IsFull slots slot
called-full slots (Ok found) slot is =
    elim (is_full slots found.0) as (λ b. is_full slots found.0 ≡ b →
    ◌≡◌ {A = Result ℕ LookupFailure} (if b then Ok found.0 else Err MissingCapability) (Ok slot) → IsFull slots slot) [
      | true ↦ λ full so. let e : found.0 ≡ slot = cc so in subst (IsFull slots) e full
      | false ↦ λ _ so. let e : ◌≡◌ {A = Result ℕ LookupFailure} (Err MissingCapability) (Ok slot) = so in absurd cc
    ] refl is
called-full slots (Err failure) slot is = let e : ◌≡◌ {A = Result ℕ LookupFailure} (Err failure) (Ok slot) = is in absurd cc

pub named-full : (s : State) (thread slot : ℕ) → named_slot s thread ≡ Ok slot → IsFull s.slots slot
named-full s thread slot is = called-full s.slots (lookup s.slots (cspace_of s thread) (read (registers_of s thread) a0) 32) slot is

number-less : (failure : LookupFailure) → failure_number failure < 2 ^ 32
number-less InvalidRoot = omega arith
number-less MissingCapability = omega arith
number-less (DepthMismatch left) = omega arith
number-less (GuardMismatch left) = omega arith

error-less : (error : KError) → error_number error < 2 ^ 16
error-less InvalidArgument = omega arith
error-less InvalidCapability = omega arith
error-less IllegalOperation = omega arith
error-less RangeError = omega arith
error-less AlignmentError = omega arith
error-less FailedLookup = omega arith
error-less TruncatedMessage = omega arith
error-less DeleteFirst = omega arith
error-less RevokeFirst = omega arith
error-less NotEnoughMemory = omega arith

-- words of 32 bits
small-one : (a : ℕ) (rest : List ℕ) → a < 2 ^ 32 → All (λ n. n < 2 ^ 32) rest → All (λ n. n < 2 ^ 32) (a ∷ rest)
small-one a rest less more = All-cons (λ (n : ℕ). n < 2 ^ 32) a rest less more

-- ---- the thread that runs

module _ (s : State) (thread : ℕ) (whole : IsSound s) (runs : IsRunning s thread) where
  registers : RegistersAreSound (registers_of s thread)
  registers = registers-of (thread_at s thread) (fine-of s whole thread runs.kind)

  pub lacks-whole : (in_receive : ℕ) (failure : LookupFailure) → in_receive < 2 ^ 32 → bits_left_of failure ≤ 32
      → IsSound (lacks_capability s thread in_receive failure).0
  lacks-whole in_receive failure less few =
      let r = registers_of s thread in
      let four : List ℕ = bits_left_of failure ∷ [] in
      let three : List ℕ = failure_number failure ∷ four in
      let two : List ℕ = in_receive ∷ three in
      let one : List ℕ = read r a0 ∷ two in
      fault-whole s whole thread (capability_fault r.pc (read r a0) in_receive failure) runs (
        small-one r.pc one registers.pc (small-one (read r a0) two (read-sound r a0 registers) (small-one in_receive three less
            (small-one (failure_number failure) four (number-less failure)
            (small-one (bits_left_of failure) [] (omega (arith, few)) (All-nil (λ (n : ℕ). n < 2 ^ 32)))))),
        omega arith,
      )

  pub unknown-whole : (number : ℕ) → number < 2 ^ 32 → IsSound (calls_known s thread number None).0
  unknown-whole number less =
      let r = registers_of s thread in
      let one : List ℕ = number ∷ [] in
      fault-whole s whole thread (unknown_call r.pc number) runs (
        small-one r.pc one registers.pc (small-one number [] less (All-nil (λ (n : ℕ). n < 2 ^ 32))),
        omega arith,
      )

pub passes_with-whole : (s : State) (x : ℕ) (file : RegisterFile) → IsSound s → kind_at s x ≡ Some NewThread → RegistersAreSound file
    → IsSound (passes_with s x file)
passes_with-whole s x file whole is sound =
    passes-whole (with_registers s x file) (registers-whole s whole x is file sound) x
    (thread-kinds s x (record (thread_at s x) { registers = file }) is x ∙ is)

pub answered-whole : (s : State) (x : ℕ) (kind : SendCall) (number : ℕ) → IsSound s → kind_at s x ≡ Some NewThread → number < 2 ^ 16
    → IsSound (answered s x kind number)
answered-whole s x Calling number whole is less =
    let r = registers_of s x in
    let sound = registers-of (thread_at s x) (fine-of s whole x is) in
    passes_with-whole s x (write (write r a0 0) a1 (info_word number 0)) whole is
    (written-sound (write r a0 0) a1 (info_word number 0) (written-sound r a0 0 sound (omega arith)) (omega (arith, less)))
answered-whole s x Sending number whole is less = passes-whole s whole x is
answered-whole s x Trying number whole is less = passes-whole s whole x is

-- ---- what a signal and a reply leave of another thread

some-thread : (o : Option Object) → is_some (as_thread o) ≡ true → option_map kind_of o ≡ Some NewThread
some-thread (Some (ThreadObject t)) is = refl
some-thread None is = let e : false ≡ true = is in absurd cc
some-thread (Some (EndpointObject x)) is = let e : false ≡ true = is in absurd cc
some-thread (Some (NotificationObject x)) is = let e : false ≡ true = is in absurd cc
some-thread (Some (CNodeObject x)) is = let e : false ≡ true = is in absurd cc
some-thread (Some FrameObject) is = let e : false ≡ true = is in absurd cc
some-thread (Some PageTableObject) is = let e : false ≡ true = is in absurd cc
some-thread (Some RootTableObject) is = let e : false ≡ true = is in absurd cc

not-runnable : (s : State) (x y : ℕ) (status : Status) → is_runnable (thread_at s x).status ≡ true → (thread_at s y).status ≡ status
    → is_runnable status ≡ false → x ≢ y
not-runnable s x y status runs is stops same =
    let clash : true ≡ false = sym runs ∙ ap (λ (z : ℕ). is_runnable (thread_at s z).status) same ∙ ap is_runnable is ∙ stops in cc

pub signaled-object : (s : State) (q badge thread : ℕ) (waiters : List ℕ) → IsSound s → kind_at s q ≡ Some NewNotification → IsRunning s thread
    → (notification_at s q).waiters ≡ waiters
    → (signals s q badge (notification_at s q) waiters).objects thread ≡ s.objects thread
signaled-object s q badge thread [] whole is runs none =
    let n = notification_at s q in
    put-other s.objects q (Some (NotificationObject (record n { word = bit_or n.word badge }))) thread
    (λ e. let clash : Some NewThread ≡ Some NewNotification = sym runs.kind ∙ ap (kind_at s) e ∙ is in cc)
signaled-object s q badge thread (waiter ∷ others) whole is runs first =
    let n = notification_at s q in
    let waits = first-waiter s whole q n waiter others (notification-object s q is) first in
    let apart_waiter = not-runnable s thread waiter (Blocked q) runs.runs waits.status refl in
    let s1 = with_notification s q (record n { waiters = others }) in
    let r = write (thread_at s1 waiter).registers a0 badge in
    let s2 = with_registers s1 waiter r in
    wake-other (deliver_word s1 waiter badge) waiter thread apart_waiter
    ∙ registers-other s2 waiter thread (advanced (thread_at s2 waiter).registers) apart_waiter
    ∙ registers-other s1 waiter thread r apart_waiter
    ∙ put-other s.objects q (Some (NotificationObject (record n { waiters = others }))) thread
    (λ e. let clash : Some NewThread ≡ Some NewNotification = sym runs.kind ∙ ap (kind_at s) e ∙ is in cc)

replied-object : (s : State) (thread caller other : ℕ) (status : Status) (message : Message) → other ≢ caller
    → (replied s thread caller status message).objects other ≡ s.objects other
replied-object s thread caller other AwaitsReply message apart =
    let bytes = bytes_between s thread caller message.count in
    wake-other (deliver_with s bytes caller 0 message) caller other apart ∙ deliver-other (record s { bytes = bytes }) caller 0 message other apart
replied-object s thread caller other AwaitsHandler message apart =
    let r = (thread_at s caller).registers in
    let resumed : RegisterFile = record r { pc = resumption r.pc message.words } in
    elim (message.label == 0) as (λ b. (if b then wake (with_registers s caller resumed) caller else block s caller Inactive).objects other ≡ s.objects other) [
      | true ↦ wake-other (with_registers s caller resumed) caller other apart ∙ registers-other s caller other resumed apart
      | false ↦ put-other s.objects caller (Some (ThreadObject (record (thread_at s caller) { status = Inactive }))) other apart
    ]
replied-object s thread caller other Inactive message apart = refl
replied-object s thread caller other Runnable message apart = refl
replied-object s thread caller other (Blocked queue) message apart = refl

runs-or-awaits : (status : Status) → is_runnable status ≡ true → awaits_answer status ≡ true → ⊥
runs-or-awaits Runnable runs awaits = let e : false ≡ true = awaits in cc
runs-or-awaits Inactive runs awaits = let e : false ≡ true = runs in cc
runs-or-awaits (Blocked q) runs awaits = let e : false ≡ true = runs in cc
runs-or-awaits AwaitsReply runs awaits = let e : false ≡ true = runs in cc
runs-or-awaits AwaitsHandler runs awaits = let e : false ≡ true = runs in cc

-- a thread that replies runs on
pub reply-runs : (s : State) (thread : ℕ) (o : Option ℕ) → IsSound s → IsRunning s thread → (thread_at s thread).caller ≡ o
    → IsRunning (option_map_or (λ caller. replied (with_caller s thread None) thread caller (thread_at s caller).status (message_between s thread caller)) o s)
    thread
reply-runs s thread None whole runs is = runs
reply-runs s thread (Some caller) whole runs is =
    let one = with_caller s thread None in
    let other : thread ≢ caller = λ e.
    (let awaits : awaits_answer (thread_at s thread).status ≡ true = ap (λ (z : ℕ). awaits_answer (thread_at s z).status) e
    ∙ whole.threads.callers thread caller is in
    runs-or-awaits (thread_at s thread).status runs.runs awaits) in
    let message = message_between s thread caller in
    running-object one (replied one thread caller (thread_at s caller).status message) thread
    (replied-object one thread caller thread (thread_at s caller).status message other) (dropped-runs s thread whole runs.kind runs.runs)

-- and goes on after its ECALL
pub reply-passes-whole : (s : State) (thread : ℕ) → IsSound s → IsRunning s thread → IsSound (passes (reply s thread) thread)
reply-passes-whole s thread whole runs =
    passes-whole (reply s thread) (reply-whole s thread whole runs.kind) thread (reply-runs s thread (thread_at s thread).caller whole runs refl).kind

-- ---- Call, Send and NBSend

pub completed-whole : (s : State) (thread : ℕ) (kind : SendCall) → IsSound s → IsSound (completed s thread kind)
completed-whole s thread kind whole =
    elim (is_some (as_thread (s.objects thread))) as (λ b. is_some (as_thread (s.objects thread)) ≡ b
    → IsSound (if b then (if is_runnable (thread_at s thread).status then answered s thread kind 0 else passes s thread) else s)) [
      | true ↦ λ is.
          let is_thread = some-thread (s.objects thread) is in
          elim (is_runnable (thread_at s thread).status) as (λ b. IsSound (if b then answered s thread kind 0 else passes s thread)) [
            | true ↦ answered-whole s thread kind 0 whole is_thread (omega arith)
            | false ↦ passes-whole s whole thread is_thread
          ]
      | false ↦ λ _. whole
    ] refl

module _ (s : State) (thread : ℕ) (whole : IsSound s) (runs : IsRunning s thread) where
  pub refused-whole : (kind : SendCall) (error : KError) → IsSound (refused s thread kind error).0
  refused-whole kind error = answered-whole s thread kind (error_number error) whole runs.kind (error-less error)

  pub after-whole : (kind : SendCall) (result : Result State KError) → ((after : State) → result ≡ Ok after → IsSound after)
      → IsSound (after_invocation s thread kind result).0
  after-whole kind (Ok after) kept = completed-whole after thread kind (kept after refl)
  after-whole kind (Err error) kept = refused-whole kind error

  pub invokes-whole : (kind : SendCall) (slot : ℕ) (capability : Cap) → IsFull s.slots slot → capability_at s.slots slot ≡ capability
      → IsSound (invokes s thread kind slot capability).0
  invokes-whole kind slot capability full is =
      let message = message_of (thread_at s thread) in
      let extra = extra_capabilities_of (read (registers_of s thread) a1) in
      let call : Call = record { root = cspace_of s thread; caller = Some thread; slot = slot; capability = capability } in
      let fine = own-message (thread_at s thread) (fine-of s whole thread runs.kind) in
      after-whole kind (invoke s call message.label extra message.words)
      (λ after so. invoke-whole s after call message.label extra message.words whole
      (record { root = of_slot (cspace_slot thread) refl; invoked = held is full }) fine.words so)

  pub sent_on-whole : (kind : SendCall) (endpoint badge : ℕ) (grant_reply : Bool) → kind_at s endpoint ≡ Some NewEndpoint → badge < 2 ^ 28
      → IsSound (send_on s thread kind endpoint badge grant_reply).0
  sent_on-whole Calling endpoint badge grant_reply is less =
      send-whole s endpoint (sender thread ByCall badge grant_reply) whole is runs (record { badge = less; sent = tt })
  sent_on-whole Sending endpoint badge grant_reply is less =
      send-whole s endpoint (sender thread BySend badge grant_reply) whole is runs (record { badge = less; sent = tt })
  sent_on-whole Trying endpoint badge grant_reply is less = try_to_send-whole s endpoint (sender thread BySend badge grant_reply) whole is runs
      (record { badge = less; sent = tt })

  pub signal_on-whole : (kind : SendCall) (q badge : ℕ) → kind_at s q ≡ Some NewNotification → badge < 2 ^ 28
      → IsSound (signal_on s thread kind q badge).0
  signal_on-whole kind q badge is less =
      let object = signaled-object s q badge thread (notification_at s q).waiters whole is runs refl in
      answered-whole (signal s q badge) thread kind 0 (signal-whole s q whole is badge less) (running-object s (signal s q badge) thread object runs).kind
      (omega arith)

  pub sent_by-whole : (kind : SendCall) (slot : ℕ) (capability : Cap) → IsFull s.slots slot → capability_at s.slots slot ≡ capability
      → IsSound (send_by s thread kind slot capability).0
  sent_by-whole kind slot (Endpoint offset r badge) full is =
      let valid : IsCapability (Endpoint offset r badge) = subst IsCapability is (whole.slots.derivation.valid slot) in
      elim (may_write r) as (λ b. IsSound (if b then send_on s thread kind offset badge (may_grant_reply r) else refused s thread kind InvalidCapability).0) [
        | true ↦ sent_on-whole kind offset badge (may_grant_reply r) (whole.memory.named slot NewEndpoint offset (ap object_named is)) valid.2
        | false ↦ refused-whole kind InvalidCapability
      ]
  sent_by-whole kind slot (Notification offset r badge) full is =
      let valid : IsCapability (Notification offset r badge) = subst IsCapability is (whole.slots.derivation.valid slot) in
      elim (may_write r) as (λ b. IsSound (if b then signal_on s thread kind offset badge else refused s thread kind InvalidCapability).0) [
        | true ↦ signal_on-whole kind offset badge (whole.memory.named slot NewNotification offset (ap object_named is)) valid.2
        | false ↦ refused-whole kind InvalidCapability
      ]
  sent_by-whole kind slot Empty full is = invokes-whole kind slot Empty full is
  sent_by-whole kind slot (Untyped a b d) full is = invokes-whole kind slot (Untyped a b d) full is
  sent_by-whole kind slot (CNode a r g) full is = invokes-whole kind slot (CNode a r g) full is
  sent_by-whole kind slot (Frame a r m) full is = invokes-whole kind slot (Frame a r m) full is
  sent_by-whole kind slot (PageTable a m) full is = invokes-whole kind slot (PageTable a m) full is
  sent_by-whole kind slot (Tcb a) full is = invokes-whole kind slot (Tcb a) full is
  sent_by-whole kind slot (RootTable a) full is = invokes-whole kind slot (RootTable a) full is
  sent_by-whole kind slot InterruptControl full is = invokes-whole kind slot InterruptControl full is
  sent_by-whole kind slot (InterruptHandler a) full is = invokes-whole kind slot (InterruptHandler a) full is

  pub sends_nothing-whole : (kind : SendCall) (failure : LookupFailure) → bits_left_of failure ≤ 32 → IsSound (sends_nothing s thread kind failure).0
  sends_nothing-whole Calling failure few = lacks-whole s thread whole runs 0 failure (omega arith) few
  sends_nothing-whole Sending failure few = lacks-whole s thread whole runs 0 failure (omega arith) few
  sends_nothing-whole Trying failure few = passes-whole s whole thread runs.kind

  sent_named-whole : (kind : SendCall) (named : Result ℕ LookupFailure) → named_slot s thread ≡ named → IsSound (send_named s thread kind named).0
  sent_named-whole kind (Ok slot) is = sent_by-whole kind slot (capability_at s.slots slot) (named-full s thread slot is) refl
  sent_named-whole kind (Err failure) is = sends_nothing-whole kind failure (named-left s thread failure is)

  -- ---- Recv and NBRecv

  pub missing-whole : IsSound (lacks_capability s thread 1 MissingCapability).0
  missing-whole = lacks-whole s thread whole runs 1 MissingCapability (omega arith) (omega arith)

  from_endpoint-whole : (kind : ReceiveCall) (endpoint : ℕ) → kind_at s endpoint ≡ Some NewEndpoint
      → IsSound (receive_on_endpoint s thread kind endpoint).0
  from_endpoint-whole Receiving endpoint is = receive-whole s endpoint thread whole is runs
  from_endpoint-whole Polling endpoint is = try_to_receive-whole s endpoint thread whole is runs

  from_notification-whole : (kind : ReceiveCall) (q : ℕ) → kind_at s q ≡ Some NewNotification → IsSound (receive_on_notification s thread kind q).0
  from_notification-whole Receiving q is = wait-whole s q whole is thread runs
  from_notification-whole Polling q is = poll-whole s q whole is thread runs

  pub received_by-whole : (kind : ReceiveCall) (slot : ℕ) (capability : Cap) → capability_at s.slots slot ≡ capability
      → IsSound (receive_by s thread kind capability).0
  received_by-whole kind slot (Endpoint offset r badge) is =
      elim (may_read r) as (λ b. IsSound (if b then receive_on_endpoint s thread kind offset else lacks_capability s thread 1 MissingCapability).0) [
        | true ↦ from_endpoint-whole kind offset (whole.memory.named slot NewEndpoint offset (ap object_named is))
        | false ↦ missing-whole
      ]
  received_by-whole kind slot (Notification offset r badge) is =
      elim (may_read r) as (λ b. IsSound (if b then receive_on_notification s thread kind offset else lacks_capability s thread 1 MissingCapability).0) [
        | true ↦ from_notification-whole kind offset (whole.memory.named slot NewNotification offset (ap object_named is))
        | false ↦ missing-whole
      ]
  received_by-whole kind slot Empty is = missing-whole
  received_by-whole kind slot (Untyped a b d) is = missing-whole
  received_by-whole kind slot (CNode a r g) is = missing-whole
  received_by-whole kind slot (Frame a r m) is = missing-whole
  received_by-whole kind slot (PageTable a m) is = missing-whole
  received_by-whole kind slot (Tcb a) is = missing-whole
  received_by-whole kind slot (RootTable a) is = missing-whole
  received_by-whole kind slot InterruptControl is = missing-whole
  received_by-whole kind slot (InterruptHandler a) is = missing-whole

  received_named-whole : (kind : ReceiveCall) (named : Result ℕ LookupFailure) → named_slot s thread ≡ named
      → IsSound (receive_named s thread kind named).0
  received_named-whole kind (Ok slot) is = received_by-whole kind slot (capability_at s.slots slot) refl
  received_named-whole kind (Err failure) is = lacks-whole s thread whole runs 1 failure (omega arith) (named-left s thread failure is)

-- ---- all of them

pub called-whole : (s : State) (thread : ℕ) (call : SystemCall) → IsSound s → IsRunning s thread
    → IsSound (calls s thread call).0
called-whole s thread (Sends kind) whole runs = sent_named-whole s thread whole runs kind (named_slot s thread) refl
called-whole s thread (Receives kind) whole runs = received_named-whole s thread whole runs kind (named_slot s thread) refl
called-whole s thread RepliesAndReceives whole runs =
    let after = reply s thread in
    received_named-whole after thread (reply-whole s thread whole runs.kind) (reply-runs s thread (thread_at s thread).caller whole runs refl) Receiving
    (named_slot after thread) refl
called-whole s thread Replies whole runs = reply-passes-whole s thread whole runs
called-whole s thread Yields whole runs =
    let r = advanced (thread_at s thread).registers in
    let after = passes s thread in
    yielded-whole after (passes-whole s whole thread runs.kind) thread
    (thread-kinds s thread (record (thread_at s thread) { registers = r }) runs.kind thread ∙ runs.kind)
    (ap (λ (o : Option Object). is_runnable (own_of o).status) (put-here s.objects thread (Some (ThreadObject (record (thread_at s thread) { registers = r }))))
    ∙ runs.runs)
called-whole s thread PutsCharacter whole runs = passes-whole s whole thread runs.kind

known-whole : (s : State) (thread number : ℕ) (call : Option SystemCall) → IsSound s → IsRunning s thread
    → number < 2 ^ 32 → IsSound (calls_known s thread number call).0
known-whole s thread number (Some call) whole runs less = called-whole s thread call whole runs
known-whole s thread number None whole runs less = unknown-whole s thread whole runs number less

pub system_call-whole : (s : State) (thread : ℕ) → IsSound s → IsRunning s thread → IsSound (system_call s thread).0
unfolding system_call
system_call-whole s thread whole runs =
    let number = read (registers_of s thread) a7 in
    known-whole s thread number (call_of number) whole runs
    (read-sound (registers_of s thread) a7 (registers-of (thread_at s thread) (fine-of s whole thread runs.kind)))
