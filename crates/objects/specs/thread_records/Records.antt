-- A thread's record in bytes 48 to 243 of its 512. Each field is a little-endian word, priority and slice are bytes. All zero is a new thread, and any bytes
-- read as some thread.
use Rattle.std.specs.Prelude.{ℕ, ◌≡◌, ◌==◌, ◌+◌, ◌^◌, ◌<◌, ◌≤◌, ◌⊎◌, Bool, not, Option, Some, None, option_map, List, [], ◌∷◌, if◌then◌else◌, length, replicate}
use Rattle.std.specs.Prelude.{slice_index}
use Rattle.model.specs.Capabilities.LookupNumbers.{failure_number}
use Rattle.model.specs.Capabilities.Slots.{OutsideSlots, Slots}
use Rattle.model.specs.Machine.Effects.{access_number, cause_number}
use Rattle.model.specs.Machine.Instructions.{IsRegister}
use Rattle.model.specs.Machine.ProgramMemory.{RegisterFile}
use Rattle.model.specs.Shared.Bytes.{word_at}
use Rattle.model.specs.declared.instructions.Access.{Access}
use Rattle.model.specs.declared.instructions.Access.TheVariants as accesses
use Rattle.model.specs.declared.instructions.Cause.{Cause}
use Rattle.model.specs.declared.instructions.Cause.TheVariants as causes
use Rattle.model.specs.declared.instructions.Register.{Register}
use Rattle.model.specs.declared.lookup_failures.LookupFailure.{LookupFailure}
use Rattle.model.specs.declared.lookup_failures.LookupFailure.TheVariants as failures
use Rattle.pmem.specs.Words.{words_at}
use Rattle.objects.specs.declared.thread_records.records.Fault.{Fault}
use Rattle.objects.specs.declared.thread_records.records.Fault.TheVariants as faults
use Rattle.objects.specs.declared.thread_records.records.Sending.{Sending}
use Rattle.objects.specs.declared.thread_records.records.Sent.{Sent}
use Rattle.objects.specs.declared.thread_records.records.Sent.TheVariants as sents
use Rattle.objects.specs.declared.thread_records.records.Status.{Status}
use Rattle.objects.specs.declared.thread_records.records.Status.TheVariants as statuses
use Rattle.objects.specs.declared.thread_records.records.Thread.{Thread}

-- ---- words

abbrev pub flag : Bool → ℕ
flag b = if b then 1 else 0

abbrev pub is_set : ℕ → Bool
is_set word = not (word == 0)

-- ---- the status of a thread, in a code and the queue that it names

abbrev pub status_from : ℕ → ℕ → Status
status_from code queue =
    if code == 1 then statuses.Runnable else
    if code == 2 then statuses.Blocked queue else
    if code == 3 then statuses.AwaitsReply else
    if code == 4 then statuses.AwaitsHandler else statuses.Inactive

abbrev pub status_words : Status → List ℕ
status_words statuses.Inactive = 0 ∷ 0 ∷ []
status_words statuses.Runnable = 1 ∷ 0 ∷ []
status_words (statuses.Blocked queue) = 2 ∷ queue ∷ []
status_words statuses.AwaitsReply = 3 ∷ 0 ∷ []
status_words statuses.AwaitsHandler = 4 ∷ 0 ∷ []

-- ---- the right to reply: whether there is one, and to whom

abbrev pub caller_from : ℕ → ℕ → Option ℕ
caller_from has caller = if has == 0 then None else Some caller

abbrev pub caller_words : Option ℕ → List ℕ
caller_words None = 0 ∷ 0 ∷ []
caller_words (Some caller) = 1 ∷ caller ∷ []

-- ---- what a thread sends: a code, the badge, the right to get a reply, and six words of a fault

abbrev pub failure_from : ℕ → ℕ → LookupFailure
failure_from number left =
    if number == 2 then failures.MissingCapability else
    if number == 3 then failures.DepthMismatch left else
    if number == 4 then failures.GuardMismatch left else failures.InvalidRoot

-- what a failure names
abbrev pub failure_left : LookupFailure → ℕ
failure_left failures.InvalidRoot = 0
failure_left failures.MissingCapability = 0
failure_left (failures.DepthMismatch left) = left
failure_left (failures.GuardMismatch left) = left

abbrev pub cause_from : ℕ → Cause
cause_from number = if number == 2 then causes.Misaligned else causes.Illegal

abbrev pub access_from : ℕ → Access
access_from number = if number == 2 then accesses.Store else if number == 3 then accesses.Fetch else accesses.Load

-- the fault with this code, that these five words hold
abbrev pub fault_from : ℕ → ℕ → ℕ → ℕ → ℕ → ℕ → Option Fault
fault_from code pc second third fourth fifth =
    if code == 3 then Some (faults.Capability pc second (is_set third) (failure_from fourth fifth)) else
    if code == 4 then Some (faults.UnknownCall pc second) else
    if code == 5 then Some (faults.Instruction pc (cause_from second)) else
    if code == 6 then Some (faults.Memory pc (record { address = second; access = access_from third })) else None

abbrev pub sent_from : ℕ → Option Fault → Option Sent
sent_from code fault = if code == 1 then Some sents.Send else if code == 2 then Some sents.Call else option_map sents.Fault fault

abbrev pub sending_with : ℕ → ℕ → Option Sent → Option Sending
sending_with badge reply None = None
sending_with badge reply (Some sent) = Some (record { sent = sent; badge = badge; grant_reply = is_set reply })

abbrev pub sending_from : List ℕ → Option Sending
sending_from words =
    let code = slice_index words 0 in
    let fault = fault_from code (slice_index words 3) (slice_index words 4) (slice_index words 5) (slice_index words 6) (slice_index words 7) in
    sending_with (slice_index words 1) (slice_index words 2) (sent_from code fault)

abbrev pub sent_words : ℕ → ℕ → Sent → List ℕ
sent_words badge reply sents.Send = 1 ∷ badge ∷ reply ∷ 0 ∷ 0 ∷ 0 ∷ 0 ∷ 0 ∷ 0 ∷ []
sent_words badge reply sents.Call = 2 ∷ badge ∷ reply ∷ 0 ∷ 0 ∷ 0 ∷ 0 ∷ 0 ∷ 0 ∷ []
sent_words badge reply (sents.Fault (faults.Capability pc address in_receive failure)) =
    3 ∷ badge ∷ reply ∷ pc ∷ address ∷ flag in_receive ∷ failure_number failure ∷ failure_left failure ∷ 0 ∷ []
sent_words badge reply (sents.Fault (faults.UnknownCall pc number)) = 4 ∷ badge ∷ reply ∷ pc ∷ number ∷ 0 ∷ 0 ∷ 0 ∷ 0 ∷ []
sent_words badge reply (sents.Fault (faults.Instruction pc cause)) = 5 ∷ badge ∷ reply ∷ pc ∷ cause_number cause ∷ 0 ∷ 0 ∷ 0 ∷ 0 ∷ []
sent_words badge reply (sents.Fault (faults.Memory pc fault)) =
    6 ∷ badge ∷ reply ∷ pc ∷ fault.address ∷ access_number fault.access ∷ 0 ∷ 0 ∷ 0 ∷ []

abbrev pub sending_words : Option Sending → List ℕ
sending_words None = 0 ∷ 0 ∷ 0 ∷ 0 ∷ 0 ∷ 0 ∷ 0 ∷ 0 ∷ 0 ∷ []
sending_words (Some sending) = sent_words sending.badge (flag sending.grant_reply) sending.sent

-- ---- threads

abbrev pub registers_at : List ℕ → ℕ → RegisterFile
registers_at memory thread = record { pc = word_at memory (thread + 48); words = words_at memory (thread + 64) 32 }

abbrev pub status_at : List ℕ → ℕ → Status
status_at memory thread = status_from (word_at memory (thread + 192)) (word_at memory (thread + 196))

abbrev pub caller_at : List ℕ → ℕ → Option ℕ
caller_at memory thread = caller_from (word_at memory (thread + 200)) (word_at memory (thread + 204))

abbrev pub sending_at : List ℕ → ℕ → Option Sending
sending_at memory thread = sending_from (words_at memory (thread + 208) 9)

-- the thread in the bytes from an offset on
unfoldable pub thread_at : List ℕ → ℕ → Thread
thread_at memory thread = record {
  registers = registers_at memory thread;
  priority = slice_index memory (thread + 52);
  slice = slice_index memory (thread + 56);
  fault_address = word_at memory (thread + 60);
  status = status_at memory thread;
  caller = caller_at memory thread;
  sending = sending_at memory thread;
}

-- a new thread: all zero, and inactive
abbrev pub blank_thread : Thread
blank_thread = record {
  registers = record { pc = 0; words = replicate 32 0 };
  priority = 0;
  slice = 0;
  fault_address = 0;
  status = statuses.Inactive;
  caller = None;
  sending = None;
}

-- ---- where a record lies

-- all bytes are the same but those from one place to another
pub record SameBeside (from to : ℕ) (old new : List ℕ) : Type 0 where
  pub size : length new ≡ length old
  pub bytes : (place : ℕ) → (place < from) ⊎ (to ≤ place) → slice_index new place ≡ slice_index old place

abbrev pub IsRecordByte : ℕ → ℕ → Type 0
IsRecordByte thread place = (thread + 48 ≤ place) × (place < thread + 244)

-- A thread has 512 bytes. Those of its record, from 48 to 243, lie in no open slot.
pub record IsRecordAt (slots : Slots) (size thread : ℕ) : Type 0 where
  pub few : size ≤ 2 ^ 24
  pub within : thread + 512 ≤ size
  pub outside : OutsideSlots slots (thread + 48) 196

-- so many bytes of a record, from a place in it on
pub record IsPartAt (slots : Slots) (size thread place bytes : ℕ) : Type 0 where
  pub there : IsRecordAt slots size thread
  pub first : 48 ≤ place
  pub inside : place + bytes ≤ 244

-- a register that a record has
pub record IsRegisterAt (slots : Slots) (size thread : ℕ) (x : Register) : Type 0 where
  pub there : IsRecordAt slots size thread
  pub named : IsRegister x

-- all bytes are the same but those of a thread's record
pub record SameBesideRecord (thread : ℕ) (old new : List ℕ) : Type 0 where
  pub size : length new ≡ length old
  pub bytes : (place : ℕ) → (IsRecordByte thread place → ⊥) → slice_index new place ≡ slice_index old place
