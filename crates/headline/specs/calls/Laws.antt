-- The laws of this crate.
use Rattle.std.specs.Prelude.{ℕ, ◌≡◌, ◌^◌, ◌<◌, ◌≤◌, Bool, Option, Some, Result, Ok, false, List, [], ◌∷◌, All, length, Contains, map}
use Rattle.model.specs.declared.capabilities.Cap.{Cap}
use Rattle.model.specs.declared.instructions.Instr.TheVariants.{Ecall}
use Rattle.model.specs.declared.instructions.Register.{Register}
use Rattle.model.specs.declared.ranges.Range.{Range}
use Rattle.model.specs.declared.refusals.Point.{Point}
use Rattle.model.specs.declared.refusals.Refusal.{Refusal}
use Rattle.model.specs.Acceptance.Accepted.{IsAccepted}
use Rattle.model.specs.Acceptance.CallRules.{AfterCall, after_call, badges, by_call, by_capability, changes_nothing, message_registers, receive_rule, send_rule}
use Rattle.model.specs.Acceptance.CallRules.{with_answer, with_message, with_received, all_known, known}
use Rattle.model.specs.Acceptance.NotedStates.{PointState}
use Rattle.model.specs.Acceptance.Promises.{KeepsPromise}
use Rattle.model.specs.Acceptance.PointStates.{Known, call_at, instruction_at, noted}
use Rattle.model.specs.Acceptance.Ranges.{single, with_range}
use Rattle.model.specs.Acceptance.ThreadInvariants.{LieWithin}
use Rattle.model.specs.Images.Described.{Numbered, numbered_threads}
use Rattle.model.specs.Images.Image.{Image, ImagePromise, Thread}
use Rattle.model.specs.Kernel.Messages.{Message, a0, a1, delivered, info_word, message_of}
use Rattle.model.specs.Kernel.State.{ThreadState}
use Rattle.model.specs.declared.system_calls.SendCall.{SendCall}
use Rattle.model.specs.declared.system_calls.SystemCall.{SystemCall}
use Rattle.model.specs.Machine.ProgramMemory.{RegisterFile, write, read}
use Rattle.headline.specs.calls.Behind.{LeadsBehind}
use Rattle.headline.specs.calls.Known.{CallsSo, IsAllowed, NamesSo}
use Rattle.headline.specs.calls.Messages.{KnownToKeep, NeedsNothing, ReceivesBy, SendsBy}
use Rattle.headline.specs.measure_facts.Terms.{WritesOnly}

-- ---- where a call leads

abbrev pub LeadsOn : Type 0
LeadsOn =
    (bytes : List ℕ) (image : Image) (t : Numbered) (point : ℕ) (state : PointState) (left : AfterCall)
    → IsAccepted bytes image → Contains (numbered_threads image) t → point < t.thread.header.words → noted image t point ≡ Known state
    → instruction_at t.thread point ≡ Some Ecall → call_at image t point state ≡ Some (Ok left) → LeadsBehind image t point state left

-- ---- what is known of a call

-- the rules on an accepted image allow the call
abbrev pub AreAllowed : Type 0
AreAllowed = (bytes : List ℕ) (image : Image) (t : Numbered) (point : ℕ) (state : PointState) → IsAccepted bytes image → Contains (numbered_threads image) t
    → point < t.thread.header.words → noted image t point ≡ Known state → instruction_at t.thread point ≡ Some Ecall → IsAllowed image t point state

-- its number is the one that is known
abbrev pub AreNumbered : Type 0
AreNumbered = (image : Image) (t : Thread) (at : Point) (state : PointState) (left : AfterCall) (registers : RegisterFile)
    → after_call image t at state ≡ Ok left → LieWithin registers state.ranges → CallsSo image t at state left registers

-- and so is the capability that it names
abbrev pub AreNamed : Type 0
AreNamed = (image : Image) (t : Thread) (at : Point) (state : PointState)
    (rules : ℕ → Cap → Result AfterCall Refusal) (left : AfterCall) (registers : RegisterFile)
    → by_capability image t at state rules ≡ Ok left → LieWithin registers state.ranges → NamesSo image t state rules left registers

-- a register that has to have one value has it
abbrev pub IsWordKnown : Type 0
IsWordKnown =
    (at : Point) (state : PointState) (x : Register) (n : ℕ) (registers : RegisterFile)
    → x.0 < 32 → known at state x ≡ Ok n → LieWithin registers state.ranges → read registers x ≡ n

-- and so have several
abbrev pub AreWordsKnown : Type 0
AreWordsKnown =
    (at : Point) (state : PointState) (xs : List Register) (ns : List ℕ) (registers : RegisterFile)
    → All (λ (x : Register). x.0 < 32) xs → all_known at state xs ≡ Ok ns → LieWithin registers state.ranges → map (read registers) xs ≡ ns

-- a receive that its rule allows
abbrev pub Receives : Type 0
Receives = (image : Image) (at : Point) (state : PointState) (is_wait : Bool) (capability : Cap) (left : AfterCall)
    → receive_rule image at state is_wait capability ≡ Ok left → ReceivesBy image state is_wait capability left

-- a Call, Send or NBSend that its rule allows
abbrev pub Sends : Type 0
Sends = (image : Image) (t : Thread) (at : Point) (state : PointState) (kind : SendCall) (slot : ℕ) (capability : Cap) (left : AfterCall)
    → send_rule image t at state kind slot capability ≡ Ok left → SendsBy image t at state kind slot capability left

-- a call that needs nothing
abbrev pub NeedNothing : Type 0
NeedNothing = (image : Image) (t : Thread) (at : Point) (state : PointState) (call : SystemCall) (left : AfterCall) → NeedsNothing call
    → by_call image t at state call ≡ Ok left → left ≡ changes_nothing state false

-- ---- what is delivered

-- registers that lie in ranges
pub record AreRegisters (registers : RegisterFile) (ranges : List Range) : Type 0 where
  pub count : length registers.words ≡ 32
  pub words : All (λ word. word < 2 ^ 32) registers.words
  pub long : length ranges ≡ 31
  pub within : LieWithin registers ranges

-- a message of words
pub record IsMessage (message : Message) : Type 0 where
  pub words : All (λ word. word < 2 ^ 32) message.words
  pub few : length message.words ≤ 8
  pub info : info_word message.label message.count < 2 ^ 32

-- what is written lies in the ranges after it, and only these registers are
abbrev pub Fits : RegisterFile → RegisterFile → List Range → List Register → Type 0
Fits registers written behind which = LieWithin written behind × WritesOnly registers written which

-- a message with a badge, which keeps what is promised of it
abbrev pub MessageFits : Type 0
MessageFits = (registers : RegisterFile) (ranges : List Range) (promise : Option ImagePromise) (badge : ℕ) (message : Message)
    → AreRegisters registers ranges → badge < 2 ^ 28 → IsMessage message → ((p : ImagePromise) → promise ≡ Some p → KeepsPromise p badge message)
    → Fits registers (delivered registers badge message) (with_received ranges promise) message_registers

-- what is known to keep a promise keeps it
abbrev pub SentMessagesKeepPromises : Type 0
SentMessagesKeepPromises = (t : ThreadState) (state : PointState) (badge : ℕ) (p : ImagePromise) → LieWithin t.registers state.ranges
    → KnownToKeep state badge p → KeepsPromise p badge (message_of t)

-- the answer to a call
abbrev pub AnswerFits : Type 0
AnswerFits = (registers : RegisterFile) (ranges : List Range) (message : Message) → AreRegisters registers ranges → IsMessage message
    → Fits registers (delivered registers 0 message) (with_message ranges (single 0) []) message_registers

-- the word of a notification
abbrev pub SignalFits : Type 0
SignalFits = (registers : RegisterFile) (ranges : List Range) (word : ℕ) → AreRegisters registers ranges → word < 2 ^ 28
    → Fits registers (write registers a0 word) (with_range ranges a0 badges) (a0 ∷ [])

-- the result of an invocation
abbrev pub ResultFits : Type 0
ResultFits = (registers : RegisterFile) (ranges : List Range) → AreRegisters registers ranges
    → Fits registers (write (write registers a0 0) a1 0) (with_answer ranges) (a0 ∷ a1 ∷ [])

-- a message that is not there
abbrev pub NothingFits : Type 0
NothingFits = (registers : RegisterFile) (ranges : List Range) → AreRegisters registers ranges
    → Fits registers (write registers a0 0) (with_message ranges badges []) message_registers
