-- A message keeps the registers of its receiver in words of 32 bits.
use Rattle.std.proofs.Common.{ℕ, ◌≡◌, ◌==◌, ◌^◌, ◌<◌, ◌≤◌, inl, inr, Bool, true, false, if◌then◌else◌, length, get_or, map, take, List, [], ◌∷◌, Option, Some}
use Rattle.std.proofs.Common.{refl, arith}
use Rattle.std.specs.Prelude.{All}
use Rattle.std.proofs.lemmas.Bool.{cases_lt}
use Rattle.std.proofs.lemmas.List.{get_or_past}
use Rattle.std.proofs.lemmas.List.Elements.{All-cons, All-get_or, All-nil}
use Rattle.model.specs.declared.faults.FaultKind.{FaultKind}
use Rattle.model.specs.declared.faults.FaultKind.TheVariants.{Capability, UnknownCall, Instruction, Memory}
use Rattle.model.specs.declared.instructions.Register.{Register}
use Rattle.model.specs.Kernel.Messages.{Message, a0, a1, bytes_sent, deliver, deliver_sent, deliver_with, deliver_word, delivered, info_word, length_of}
use Rattle.model.specs.Kernel.Messages.{message_between, message_of, message_to, passes, passes_with, with_registers, word_registers}
use Rattle.model.specs.Kernel.Retype.{NewObject, NewThread}
use Rattle.model.specs.Kernel.Soundness.{ThreadIsSound, SenderIsSound, SentIsSound}
use Rattle.model.specs.Kernel.State.{Sender, Sent, BySend, ByCall, ByFault, State, ThreadState, thread_at}
use Rattle.model.specs.Machine.Effects.{advanced}
use Rattle.model.specs.Machine.ProgramMemory.{RegisterFile, read, write}
use Rattle.model.specs.Shared.Labels.{fault_number}
use Rattle.soundness.specs.Running.{RegistersAreSound}
use Rattle.soundness.proofs.Buffers.{length-less, sent-bytes}
use Rattle.soundness.proofs.Bytes.{AreBytes, bytes-rest}
use Rattle.soundness.proofs.Moving.{Moving, rewritten}
use Rattle.soundness.proofs.Registers.{advanced-sound, registers-of, with-registers, words-sound, written-sound}
use Rattle.soundness.proofs.Steps.{own-fine}

-- ---- messages

pub record MessageIsSound (message : Message) : Type 0 where
  pub label : message.label < 2 ^ 20
  pub words : All (λ word. word < 2 ^ 32) message.words
  pub count : message.count ≤ 127

pub read-less : (words : List ℕ) (index : ℕ) → All (λ word. word < 2 ^ 32) words → get_or words index 0 < 2 ^ 32
read-less words index less = elim (cases_lt index (length words)) [
  | inl inside ↦ All-get_or (λ (n : ℕ). n < 2 ^ 32) words index 0 inside less
  | inr outside ↦ let e = get_or_past words index 0 outside in omega (arith, e)
]

pub read-sound : (r : RegisterFile) (x : Register) → RegistersAreSound r → read r x < 2 ^ 32
read-sound r x sound = elim (x.0 == 0) as (λ b. (if b then 0 else get_or r.words x.0 0) < 2 ^ 32) [
  | true ↦ omega arith
  | false ↦ read-less r.words x.0 sound.words
]

all-read : (r : RegisterFile) (registers : List Register) → RegistersAreSound r → All (λ word. word < 2 ^ 32) (map (read r) registers)
all-read r [] sound = All-nil (λ (n : ℕ). n < 2 ^ 32)
all-read r (x ∷ registers) sound = All-cons (λ (n : ℕ). n < 2 ^ 32) (read r x) (map (read r) registers) (read-sound r x sound) (all-read r registers sound)

pub own-message : (t : ThreadState) → ThreadIsSound t → MessageIsSound (message_of t)
own-message t fine =
    let r = t.registers in
    let sound = registers-of t fine in
    let info = read r a1 in
    let less = read-sound r a1 sound in
    record {
      label = omega (arith, less);
      words = all-read r (take (length_of info) word_registers) sound;
      count = omega arith;
    }

pub between-message : (s : State) (from to : ℕ) → ThreadIsSound (thread_at s from) → MessageIsSound (message_between s from to)
between-message s from to fine =
    let own = own-message (thread_at s from) fine in record { label = own.label; words = own.words; count = length-less s from to }

fault-less : (kind : FaultKind) → fault_number kind < 2 ^ 20
fault-less Capability = omega arith
fault-less UnknownCall = omega arith
fault-less Instruction = omega arith
fault-less Memory = omega arith

pub sent-message : (s : State) (sender : Sender) (sent : Sent) (receiver : ℕ) → ThreadIsSound (thread_at s sender.thread) → SentIsSound sent
    → MessageIsSound (message_to s sender sent receiver)
sent-message s sender BySend receiver fine sound = between-message s sender.thread receiver fine
sent-message s sender ByCall receiver fine sound = between-message s sender.thread receiver fine
sent-message s sender (ByFault fault) receiver fine sound =
    let few = sound.1 in record { label = fault-less fault.kind; words = sound.0; count = omega (arith, few) }

pub delivered-sound : (r : RegisterFile) (badge : ℕ) (message : Message) → RegistersAreSound r → badge < 2 ^ 32 → MessageIsSound message
    → RegistersAreSound (delivered r badge message)
delivered-sound r badge message sound less fine =
    let label = fine.label in
    let count = fine.count in
    words-sound (write (write r a0 badge) a1 (info_word message.label message.count)) word_registers message.words
    (written-sound (write r a0 badge) a1 (info_word message.label message.count) (written-sound r a0 badge sound less) (omega (arith, label, count)))
    fine.words

-- ---- deliveries to a thread, while another or itself is on its way

module _ (kinds : ℕ → Option NewObject) (s : State) (x : ℕ) (r w : ℕ → ℕ) (awaits : Bool) (y : ℕ) (is_thread : kinds y ≡ Some NewThread) where
  pub registers-moving : (file : RegisterFile) → Moving kinds s x r w awaits → RegistersAreSound file
      → Moving kinds (with_registers s y file) x r w awaits
  registers-moving file moving sound =
      rewritten kinds s x r w awaits y (record (thread_at s y) { registers = file }) moving is_thread
      (with-registers (thread_at s y) file (own-fine kinds s x r w y moving.listed is_thread) sound) (λ _ e. e) (λ _. (refl, refl))

  pub own-registers : Moving kinds s x r w awaits → RegistersAreSound (thread_at s y).registers
  own-registers moving = registers-of (thread_at s y) (own-fine kinds s x r w y moving.listed is_thread)

pub passes-moving : (kinds : ℕ → Option NewObject) (s : State) (x : ℕ) (r w : ℕ → ℕ) (awaits : Bool) (y : ℕ) → kinds y ≡ Some NewThread
    → Moving kinds s x r w awaits
    → Moving kinds (passes s y) x r w awaits
passes-moving kinds s x r w awaits y is_thread moving =
    registers-moving kinds s x r w awaits y is_thread (advanced (thread_at s y).registers) moving
    (advanced-sound (thread_at s y).registers (own-registers kinds s x r w awaits y is_thread moving))

pub passes_with-moving : (kinds : ℕ → Option NewObject) (s : State) (x : ℕ) (r w : ℕ → ℕ) (awaits : Bool) (y : ℕ) (file : RegisterFile)
    → kinds y ≡ Some NewThread
    → Moving kinds s x r w awaits → RegistersAreSound file → Moving kinds (passes_with s y file) x r w awaits
passes_with-moving kinds s x r w awaits y file is_thread moving sound =
    passes-moving kinds (with_registers s y file) x r w awaits y is_thread (registers-moving kinds s x r w awaits y is_thread file moving sound)

pub deliver-moving : (kinds : ℕ → Option NewObject) (s : State) (x : ℕ) (r w : ℕ → ℕ) (awaits : Bool) (y badge : ℕ) (message : Message)
    → kinds y ≡ Some NewThread
    → Moving kinds s x r w awaits → badge < 2 ^ 32 → MessageIsSound message → Moving kinds (deliver s y badge message) x r w awaits
deliver-moving kinds s x r w awaits y badge message is_thread moving less fine =
    passes_with-moving kinds s x r w awaits y (delivered (thread_at s y).registers badge message) is_thread moving
    (delivered-sound (thread_at s y).registers badge message (own-registers kinds s x r w awaits y is_thread moving) less fine)

pub deliver_word-moving : (kinds : ℕ → Option NewObject) (s : State) (x : ℕ) (r w : ℕ → ℕ) (awaits : Bool) (y word : ℕ) → kinds y ≡ Some NewThread
    → Moving kinds s x r w awaits → word < 2 ^ 32 → Moving kinds (deliver_word s y word) x r w awaits
deliver_word-moving kinds s x r w awaits y word is_thread moving less =
    passes_with-moving kinds s x r w awaits y (write (thread_at s y).registers a0 word) is_thread moving
    (written-sound (thread_at s y).registers a0 word (own-registers kinds s x r w awaits y is_thread moving) less)

-- other bytes
pub bytes-moving : (kinds : ℕ → Option NewObject) (s : State) (x : ℕ) (r w : ℕ → ℕ) (awaits : Bool) (bytes : ℕ → Option ℕ)
    → Moving kinds s x r w awaits → AreBytes s bytes → Moving kinds (record s { bytes = bytes }) x r w awaits
bytes-moving kinds s x r w awaits bytes moving fine = record {
  listed = record {
    kind = moving.listed.kind;
    rest = bytes-rest s bytes moving.listed.rest fine;
    threads = moving.listed.threads;
    ready = moving.listed.ready;
    queued = moving.listed.queued;
    here = moving.listed.here;
    there = moving.listed.there;
    one_sided = moving.listed.one_sided;
    senders = moving.listed.senders;
    words = moving.listed.words;
    idle = moving.listed.idle;
  };
  rights = record { callers = moving.rights.callers; answer = moving.rights.answer; one_right = moving.rights.one_right };
}

pub deliver_with-moving : (kinds : ℕ → Option NewObject) (s : State) (x : ℕ) (r w : ℕ → ℕ) (awaits : Bool) (bytes : ℕ → Option ℕ) (y badge : ℕ)
    (message : Message) → kinds y ≡ Some NewThread
    → Moving kinds s x r w awaits → AreBytes s bytes → badge < 2 ^ 32 → MessageIsSound message
    → Moving kinds (deliver_with s bytes y badge message) x r w awaits
deliver_with-moving kinds s x r w awaits bytes y badge message is_thread moving fine less sound =
    deliver-moving kinds (record s { bytes = bytes }) x r w awaits y badge message is_thread (bytes-moving kinds s x r w awaits bytes moving fine) less sound

-- what a sender says, which is on its way itself or not
pub deliver_sent-moving : (kinds : ℕ → Option NewObject) (s : State) (x : ℕ) (r w : ℕ → ℕ) (awaits : Bool) (sender : Sender) (receiver : ℕ)
    → kinds sender.thread ≡ Some NewThread → kinds receiver ≡ Some NewThread
    → Moving kinds s x r w awaits → SenderIsSound sender → Moving kinds (deliver_sent s sender receiver) x r w awaits
deliver_sent-moving kinds s x r w awaits sender receiver one other moving sound =
    let badge = sound.badge in
    deliver_with-moving kinds s x r w awaits (bytes_sent s sender sender.sent receiver) receiver sender.badge (message_to s sender sender.sent receiver) other
    moving (sent-bytes s moving.listed.rest sender sender.sent receiver) (omega (arith, badge))
    (sent-message s sender sender.sent receiver (own-fine kinds s x r w sender.thread moving.listed one) sound.sent)
