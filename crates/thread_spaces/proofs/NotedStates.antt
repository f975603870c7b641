-- Each state that is noted of a point has the ranges of 31 registers, and slots of which holds what holds of those in each record and
-- of those that each call leaves.
use Rattle.std.proofs.Common.{ℕ, zero, suc, ◌≡◌, ◌∙◌, ◌==◌, ◌-◌, Bool, true, false, not, if◌then◌else◌, Option, Some, None, Result, Ok, Err, option_map}
use Rattle.std.proofs.Common.{List, [], ◌∷◌, take, length, refl, subst, pos}
use Rattle.std.specs.Prelude.{fold, slice_set}
use Rattle.std.specs.Option.{option_map_or}
use Rattle.std.specs.List.{list_any}
use Rattle.std.proofs.lemmas.List.{length-set}
use Rattle.model.specs.declared.capabilities.Cap.{Cap}
use Rattle.model.specs.declared.capabilities.Cap.TheVariants.{Empty, Untyped, Endpoint, Notification, CNode, Frame, PageTable, Tcb, RootTable, InterruptControl}
use Rattle.model.specs.declared.capabilities.Cap.TheVariants.{InterruptHandler}
use Rattle.model.specs.declared.entries.PromisedWord.{PromisedWord}
use Rattle.model.specs.declared.entries.RangeEntry.{RangeEntry}
use Rattle.model.specs.declared.errors.KError.TheVariants.{IllegalOperation}
use Rattle.model.specs.declared.instructions.Instr.{Instr}
use Rattle.model.specs.declared.instructions.Instr.TheVariants.{Upper, Jal, Jalr, Branch, Load, Store, Immediate, Shift, Registers, Fence, Ecall, Ebreak}
use Rattle.model.specs.declared.instructions.Register.{Register}
use Rattle.model.specs.declared.invocations.Invocation.{Invocation}
use Rattle.model.specs.declared.ranges.Range.{Range}
use Rattle.model.specs.declared.refusals.Point.{Point}
use Rattle.model.specs.declared.refusals.Refusal.{Refusal}
use Rattle.model.specs.declared.refusals.Refusal.TheVariants.{CallRefused, CapNotThere, PoolLost}
use Rattle.model.specs.declared.rights.Rights.{Rights}
use Rattle.model.specs.declared.system_calls.ReceiveCall.TheVariants.{Receiving, Polling}
use Rattle.model.specs.declared.system_calls.SendCall.{SendCall}
use Rattle.model.specs.declared.system_calls.SendCall.TheVariants.{Calling, Sending, Trying}
use Rattle.model.specs.declared.system_calls.SystemCall.{SystemCall}
use Rattle.model.specs.declared.system_calls.SystemCall.TheVariants.{Sends, Receives, RepliesAndReceives, Replies, Yields, PutsCharacter}
use Rattle.model.specs.Acceptance.CallRules.{AfterCall, after_call, after_message, all_known, answers, badges, by_call, by_capability, by_number, demand}
use Rattle.model.specs.Acceptance.CallRules.{found_slot}
use Rattle.model.specs.Acceptance.CallRules.{invocation, invoked, kernel_allows, known, loses_pool, may_call, may_send, message_registers, promise_received}
use Rattle.model.specs.Acceptance.CallRules.{promise_rule}
use Rattle.model.specs.Acceptance.CallRules.{receive_rule, send_rule, sends_message, sends_signal, with_answer, with_message, with_received}
use Rattle.model.specs.Acceptance.Edges.{Edge, after}
use Rattle.model.specs.Acceptance.Measures.{has_term, lowered, register_numbered}
use Rattle.model.specs.Acceptance.NotedKernel.{noted_after, noted_kernel, noted_root}
use Rattle.model.specs.Acceptance.NotedStates.{NotedSlot, PointState, full_ranges, has_stray_slots, record_of, record_state}
use Rattle.model.specs.Acceptance.PointStates.{Noted, Known, Missing, Unmeasured, call_at, follows, follows_call, follows_edge, follows_instruction}
use Rattle.model.specs.Acceptance.PointStates.{instruction_at, noted, noted_or, point_of, whole_budget, with_measure}
use Rattle.model.specs.Acceptance.Promises.{promise_at, range_promised, with_words}
use Rattle.model.specs.Acceptance.RangeRules.{destination, range, ranges_after}
use Rattle.model.specs.Acceptance.Ranges.{full, single, with_range}
use Rattle.model.specs.Capabilities.Lookup.{called_slot}
use Rattle.model.specs.Capabilities.Rights.{may_read, may_write}
use Rattle.model.specs.Capabilities.Slots.{Slots, capability_at}
use Rattle.model.specs.Images.Described.{Numbered}
use Rattle.model.specs.Images.Format.{◌>>=◌}
use Rattle.model.specs.Images.Image.{Image, ImagePromise, StateRecord, Thread}
use Rattle.model.specs.Images.Places.{offset_of}
use Rattle.model.specs.Kernel.Arguments.{Call}
use Rattle.model.specs.Kernel.CallForms.{form_called}
use Rattle.model.specs.Kernel.Invocations.{perform}
use Rattle.model.specs.Kernel.Messages.{a0, a1, a7, extra_capabilities_of, label_of, length_of, word_registers}
use Rattle.model.specs.Kernel.Steps.{call_of}
use Rattle.ranges.proofs.Laws.{with-long}

-- ---- ranges that are set

pub words-long : (xs : List Register) (ranges : List Range) (words : List PromisedWord) → length (with_words ranges xs words) ≡ length ranges
words-long [] ranges words = refl
words-long (x ∷ xs) ranges [] = words-long xs (with_range ranges x full) [] ∙ with-long ranges x full
words-long (x ∷ xs) ranges (word ∷ words) =
    words-long xs (with_range ranges x (range_promised word)) words ∙ with-long ranges x (range_promised word)

entries-long : (es : List RangeEntry) (ranges : List Range) →
    length (fold (λ known e. with_range known (register_numbered e.register) (range e.low e.high)) ranges es) ≡ length ranges
entries-long [] ranges = refl
entries-long (e ∷ es) ranges = entries-long es (with_range ranges (register_numbered e.register) (range e.low e.high))
    ∙ with-long ranges (register_numbered e.register) (range e.low e.high)

behind-long : (pc : ℕ) (instr : Instr) (ranges : List Range) → length (ranges_after pc instr ranges) ≡ length ranges
unfolding ranges_after
behind-long pc (Upper op rd immediate) ranges = with-long ranges rd _
behind-long pc (Jal rd offset) ranges = with-long ranges rd _
behind-long pc (Jalr rd rs1 offset) ranges = with-long ranges rd _
behind-long pc (Branch op rs1 rs2 offset) ranges = refl
behind-long pc (Load op rd rs1 offset) ranges = with-long ranges rd _
behind-long pc (Store op rs1 rs2 offset) ranges = refl
behind-long pc (Immediate op rd rs1 immediate) ranges = with-long ranges rd _
behind-long pc (Shift op rd rs1 amount) ranges = with-long ranges rd _
behind-long pc (Registers op rd rs1 rs2) ranges = with-long ranges rd _
behind-long pc Fence ranges = refl
behind-long pc Ecall ranges = refl
behind-long pc Ebreak ranges = refl

-- ---- branches

abbrev EdgeIsLong : Option Edge → Type 0
EdgeIsLong None = Unit {0}
EdgeIsLong (Some edge) = length edge.ranges ≡ 31

sides-long : (ranges : List Range) (rs1 rs2 : Register) (empty : Bool) (first second : Range) (target : ℕ) → length ranges ≡ 31
    → EdgeIsLong (option_map (λ kept. let e : Edge = record { target = target; before = kept; ranges = kept } in e)
    (if empty then None else Some (with_range (with_range ranges rs1 first) rs2 second)))
sides-long ranges rs1 rs2 true first second target long = tt
sides-long ranges rs1 rs2 false first second target long = with-long (with_range ranges rs1 first) rs2 second ∙ with-long ranges rs1 first ∙ long

after-long : (pc : ℕ) (instr : Instr) (ranges : List Range) → length ranges ≡ 31 → EdgeIsLong (after pc instr ranges).fall_through
unfolding after
after-long pc (Upper op rd immediate) ranges long = behind-long pc (Upper op rd immediate) ranges ∙ long
after-long pc (Jal rd offset) ranges long = tt
after-long pc (Jalr rd rs1 offset) ranges long = tt
after-long pc (Branch op rs1 rs2 offset) ranges long = sides-long ranges rs1 rs2 _ _ _ _ long
after-long pc (Load op rd rs1 offset) ranges long = behind-long pc (Load op rd rs1 offset) ranges ∙ long
after-long pc (Store op rs1 rs2 offset) ranges long = behind-long pc (Store op rs1 rs2 offset) ranges ∙ long
after-long pc (Immediate op rd rs1 immediate) ranges long = behind-long pc (Immediate op rd rs1 immediate) ranges ∙ long
after-long pc (Shift op rd rs1 amount) ranges long = behind-long pc (Shift op rd rs1 amount) ranges ∙ long
after-long pc (Registers op rd rs1 rs2) ranges long = behind-long pc (Registers op rd rs1 rs2) ranges ∙ long
after-long pc Fence ranges long = behind-long pc Fence ranges ∙ long
after-long pc Ecall ranges long = tt
after-long pc Ebreak ranges long = tt

-- ---- calls

record IsAfter (Holds : List NotedSlot → Type 0) (a : AfterCall) : Type 0 where
  long : length a.ranges ≡ 31
  slots : Holds a.slots

data IsAnswer (Holds : List NotedSlot → Type 0) : Result AfterCall Refusal → Type 0 where
  answers_so : (a : AfterCall) → IsAfter Holds a → IsAnswer Holds (Ok a)
  refuses : (refusal : Refusal) → IsAnswer Holds (Err refusal)

module _ (Holds : List NotedSlot → Type 0) (image : Image) (t : Thread) (leaves : (slots : Slots) → Holds (noted_after image t slots)) (at : Point)
    (state : PointState) (long : length state.ranges ≡ 31) (holds : Holds state.slots) where
  bind : {A : Type 0} (r : Result A Refusal) (f : A → Result AfterCall Refusal) → ((x : A) → IsAnswer Holds (f x)) → IsAnswer Holds (r >>= f)
  bind (Ok x) f each = each x
  bind (Err refusal) f each = refuses refusal

  so : (ranges : List Range) (slots : List NotedSlot) (is_wait : Bool) (written : List Register) → length ranges ≡ 31 → Holds slots
      → IsAnswer Holds (Ok (record { ranges = ranges; slots = slots; is_wait = is_wait; written = written }))
  so ranges slots is_wait written long holds = answers_so (record { ranges = ranges; slots = slots; is_wait = is_wait; written = written })
      (record { long = long; slots = holds })

  message-long : (badge : Range) (words : List PromisedWord) → length (with_message state.ranges badge words) ≡ 31
  message-long badge words = words-long word_registers (with_range (with_range state.ranges a0 badge) a1 full) words
      ∙ with-long (with_range state.ranges a0 badge) a1 full ∙ with-long state.ranges a0 badge ∙ long

  received-long : (promise : Option ImagePromise) → length (with_received state.ranges promise) ≡ 31
  received-long None = message-long badges []
  received-long (Some p) = message-long (range p.header.badge_low p.header.badge_high) p.words

  answer-long : length (with_answer state.ranges) ≡ 31
  answer-long = with-long (with_range state.ranges a0 (single 0)) a1 (single 0) ∙ with-long state.ranges a0 (single 0) ∙ long

  receives : (is_wait : Bool) (capability : Cap) → IsAnswer Holds (receive_rule image at state is_wait capability)
  receives is_wait (Endpoint offset r badge) = bind (demand (may_read r) (CapNotThere at)) _
      (λ _. so (with_received state.ranges (promise_received image is_wait offset)) state.slots is_wait message_registers
      (received-long (promise_received image is_wait offset)) holds)
  receives is_wait (Notification offset r badge) = bind (demand (may_read r) (CapNotThere at)) _
      (λ _. so (with_range state.ranges a0 badges) state.slots is_wait (a0 ∷ []) (with-long state.ranges a0 badges ∙ long) holds)
  receives is_wait Empty = refuses _
  receives is_wait (Untyped _ _ _) = refuses _
  receives is_wait (CNode _ _ _) = refuses _
  receives is_wait (Frame _ _ _) = refuses _
  receives is_wait (PageTable _ _) = refuses _
  receives is_wait (Tcb _) = refuses _
  receives is_wait (RootTable _) = refuses _
  receives is_wait InterruptControl = refuses _
  receives is_wait (InterruptHandler _) = refuses _

  sent : (kind : SendCall) → IsAnswer Holds (Ok (after_message state kind))
  sent Calling = so (with_message state.ranges (single 0) []) state.slots true message_registers (message-long (single 0) []) holds
  sent Sending = so state.ranges state.slots true [] long holds
  sent Trying = so state.ranges state.slots false [] long holds

  messages : (kind : SendCall) (r : Rights) (badge : ℕ) (promise : Option ImagePromise) → IsAnswer Holds (sends_message at state kind r badge promise)
  messages kind r badge promise =
      bind (demand (may_send kind r) (CapNotThere at)) _ (λ _. bind (promise_rule at state badge promise) _ (λ _. sent kind))

  signals : (kind : SendCall) (r : Rights) → IsAnswer Holds (sends_signal at state kind r)
  signals Calling r = bind (demand (may_write r) (CapNotThere at)) _
      (λ _. so (with_answer state.ranges) state.slots false (a0 ∷ a1 ∷ []) answer-long holds)
  signals Sending r = bind (demand (may_write r) (CapNotThere at)) _ (λ _. so state.ranges state.slots false [] long holds)
  signals Trying r = bind (demand (may_write r) (CapNotThere at)) _ (λ _. so state.ranges state.slots false [] long holds)

  answered-long : (has : Bool) → length (if has then with_answer state.ranges else state.ranges) ≡ 31
  answered-long true = answer-long
  answered-long false = long

  invokes : (call : Call) (c : Invocation) (has : Bool) → IsAnswer Holds (invoked image t at state call c has)
  invokes call c has =
      let s = noted_kernel image t state.slots in
      bind (kernel_allows at (perform s call c)) _ (λ after.
      bind (demand (not (loses_pool s.slots call c)) (PoolLost at)) _ (λ _.
      bind (demand (may_call s.slots call c) (CallRefused at IllegalOperation)) _ (λ _.
      so (if has then with_answer state.ranges else state.ranges) (noted_after image t after.slots) false (if has then a0 ∷ a1 ∷ [] else [])
      (answered-long has) (leaves after.slots))))

  invocations : (call : Call) (has : Bool) → IsAnswer Holds (invocation image t at state call has)
  invocations call has =
      bind (known at state a1) _ (λ info.
      bind (kernel_allows at (form_called call.capability (label_of info) (extra_capabilities_of info) (length_of info))) _ (λ form.
      bind (all_known at state (take form.count word_registers)) _ (λ words. invokes call (form.call words) has)))

  call_of_slot : ℕ → Cap → Call
  call_of_slot slot capability = record { root = noted_root image t; caller = Some (offset_of image t.header.tcb); slot = slot; capability = capability }

  sends : (kind : SendCall) (slot : ℕ) (capability : Cap) → IsAnswer Holds (send_rule image t at state kind slot capability)
  unfolding call_of_slot
  sends kind slot (Endpoint offset r badge) = messages kind r badge (promise_at image offset)
  sends kind slot (Notification offset r badge) = signals kind r
  sends kind slot Empty = invocations (call_of_slot slot Empty) (answers kind)
  sends kind slot (Untyped a b c) = invocations (call_of_slot slot (Untyped a b c)) (answers kind)
  sends kind slot (CNode a b c) = invocations (call_of_slot slot (CNode a b c)) (answers kind)
  sends kind slot (Frame a b c) = invocations (call_of_slot slot (Frame a b c)) (answers kind)
  sends kind slot (PageTable a b) = invocations (call_of_slot slot (PageTable a b)) (answers kind)
  sends kind slot (Tcb a) = invocations (call_of_slot slot (Tcb a)) (answers kind)
  sends kind slot (RootTable a) = invocations (call_of_slot slot (RootTable a)) (answers kind)
  sends kind slot InterruptControl = invocations (call_of_slot slot InterruptControl) (answers kind)
  sends kind slot (InterruptHandler a) = invocations (call_of_slot slot (InterruptHandler a)) (answers kind)

  capable : (rule : ℕ → Cap → Result AfterCall Refusal) → ((slot : ℕ) (capability : Cap) → IsAnswer Holds (rule slot capability)) →
      IsAnswer Holds (by_capability image t at state rule)
  capable rule each =
      let slots = (noted_kernel image t state.slots).slots in
      bind (known at state a0) _ (λ address.
      bind (found_slot at (called_slot slots (noted_root image t) address)) _ (λ slot. each slot (capability_at slots slot)))

  called : (call : SystemCall) → IsAnswer Holds (by_call image t at state call)
  called (Sends kind) = capable (send_rule image t at state kind) (sends kind)
  called (Receives Receiving) = capable (λ slot. receive_rule image at state true) (λ slot. receives true)
  called (Receives Polling) = capable (λ slot. receive_rule image at state false) (λ slot. receives false)
  called RepliesAndReceives = capable (λ slot. receive_rule image at state true) (λ slot. receives true)
  called Replies = so state.ranges state.slots false [] long holds
  called Yields = so state.ranges state.slots false [] long holds
  called PutsCharacter = so state.ranges state.slots false [] long holds

  numbered : (call : Option SystemCall) → IsAnswer Holds (by_number image t at state call)
  numbered None = refuses _
  numbered (Some call) = called call

  answered : IsAnswer Holds (after_call image t at state)
  unfolding after_call
  answered = bind (known at state a7) _ (λ number. numbered (call_of number))

-- ---- after a point

pub record IsNoted (Holds : List NotedSlot → Type 0) (state : PointState) : Type 0 where
  pub long : length state.ranges ≡ 31
  pub slots : Holds state.slots

abbrev EachIsNoted : (Holds : List NotedSlot → Type 0) → Noted → Type 0
EachIsNoted Holds (Known state) = IsNoted Holds state
EachIsNoted Holds Missing = Unit {0}
EachIsNoted Holds Unmeasured = Unit {0}

module _ (Holds : List NotedSlot → Type 0) where
  after-one : (state : PointState) (has : Bool) (a : AfterCall) → IsAfter Holds a
      → EachIsNoted Holds (if has then Unmeasured else with_measure a (lowered state.measure (pos 1)))
  after-one state true a is = tt
  after-one state false a is = record { long = IsAfter.long is; slots = IsAfter.slots is }

  after-called : (t : Thread) (state : PointState) (wait : Bool) (a : AfterCall) → IsAfter Holds a
      → EachIsNoted Holds (if wait then with_measure a (whole_budget t) else if list_any (λ x. has_term state.measure x.0) a.written then Unmeasured else
      with_measure a (lowered state.measure (pos 1)))
  after-called t state true a is = record { long = IsAfter.long is; slots = IsAfter.slots is }
  after-called t state false a is = after-one state (list_any (λ x. has_term state.measure x.0) a.written) a is

  after-answer : (t : Thread) (state : PointState) (answer : Result AfterCall Refusal) → IsAnswer Holds answer →
      EachIsNoted Holds (follows_call t state.measure (Some answer))
  after-answer t state answer (answers_so a is) = after-called t state a.is_wait a is
  after-answer t state answer (refuses refusal) = tt

  after-edge : (instr : Instr) (state : PointState) (edge : Option Edge) → IsNoted Holds state → EdgeIsLong edge →
      EachIsNoted Holds (follows_edge instr state edge)
  after-edge instr state None is long = tt
  after-edge instr state (Some edge) is long = by-test (option_map_or (λ (rd : Register). has_term state.measure rd.0) (destination instr) false)
    where
      by-test : (has : Bool) → EachIsNoted Holds (if has then Unmeasured else
          Known (record { ranges = edge.ranges; slots = state.slots; measure = lowered state.measure (pos 1) }))
      by-test true = tt
      by-test false = record { long = long; slots = is.slots }

module _ (Holds : List NotedSlot → Type 0) (image : Image) (t : Numbered) (leaves : (slots : Slots) → Holds (noted_after image t.thread slots))
    (recorded : (point : ℕ) (r : StateRecord) → record_of t.thread point ≡ Some r → Holds (record_state image t.thread r).slots) where
  call-follows : (point : ℕ) (state : PointState) → IsNoted Holds state →
      EachIsNoted Holds (follows_call t.thread state.measure (call_at image t point state))
  unfolding call_at
  call-follows point state is = by-test (has_stray_slots image t.thread point state)
    where
      by-test : (stray : Bool) →
          EachIsNoted Holds (follows_call t.thread state.measure (if stray then None else Some (after_call image t.thread (point_of t point) state)))
      by-test true = tt
      by-test false = after-answer Holds t.thread state (after_call image t.thread (point_of t point) state)
          (answered Holds image t.thread leaves (point_of t point) state is.long is.slots)

  instr-follows : (point : ℕ) (state : PointState) (instr : Option Instr) → IsNoted Holds state →
      EachIsNoted Holds (follows_instruction image t point state instr)
  instr-follows point state None is = tt
  instr-follows point state (Some Ecall) is = call-follows point state is
  instr-follows point state (Some (Upper op rd immediate)) is =
      after-edge Holds (Upper op rd immediate) state _ is (after-long _ (Upper op rd immediate) state.ranges is.long)
  instr-follows point state (Some (Jal rd offset)) is = after-edge Holds (Jal rd offset) state _ is (after-long _ (Jal rd offset) state.ranges is.long)
  instr-follows point state (Some (Jalr rd rs1 offset)) is =
      after-edge Holds (Jalr rd rs1 offset) state _ is (after-long _ (Jalr rd rs1 offset) state.ranges is.long)
  instr-follows point state (Some (Branch op rs1 rs2 offset)) is =
      after-edge Holds (Branch op rs1 rs2 offset) state _ is (after-long _ (Branch op rs1 rs2 offset) state.ranges is.long)
  instr-follows point state (Some (Load op rd rs1 offset)) is =
      after-edge Holds (Load op rd rs1 offset) state _ is (after-long _ (Load op rd rs1 offset) state.ranges is.long)
  instr-follows point state (Some (Store op rs1 rs2 offset)) is =
      after-edge Holds (Store op rs1 rs2 offset) state _ is (after-long _ (Store op rs1 rs2 offset) state.ranges is.long)
  instr-follows point state (Some (Immediate op rd rs1 immediate)) is =
      after-edge Holds (Immediate op rd rs1 immediate) state _ is (after-long _ (Immediate op rd rs1 immediate) state.ranges is.long)
  instr-follows point state (Some (Shift op rd rs1 amount)) is =
      after-edge Holds (Shift op rd rs1 amount) state _ is (after-long _ (Shift op rd rs1 amount) state.ranges is.long)
  instr-follows point state (Some (Registers op rd rs1 rs2)) is =
      after-edge Holds (Registers op rd rs1 rs2) state _ is (after-long _ (Registers op rd rs1 rs2) state.ranges is.long)
  instr-follows point state (Some Fence) is = after-edge Holds Fence state _ is (after-long _ Fence state.ranges is.long)
  instr-follows point state (Some Ebreak) is = after-edge Holds Ebreak state _ is (after-long _ Ebreak state.ranges is.long)

  noted-follows : (point : ℕ) (n : Noted) → EachIsNoted Holds n → EachIsNoted Holds (follows image t point n)
  noted-follows point (Known state) is = instr-follows point state (instruction_at t.thread point) is
  noted-follows point Missing is = tt
  noted-follows point Unmeasured is = tt

  record-noted : (point : ℕ) (r : Option StateRecord) (otherwise : Noted) → record_of t.thread point ≡ r → EachIsNoted Holds otherwise →
      EachIsNoted Holds (noted_or image t.thread r otherwise)
  unfolding record_state
  record-noted point None otherwise at is = is
  record-noted point (Some r) otherwise at is = record { long = entries-long r.ranges full_ranges; slots = recorded point r at }

  each-noted : (point : ℕ) → EachIsNoted Holds (noted image t point)
  unfolding noted
  each-noted zero = record-noted 0 (record_of t.thread 0) Missing refl tt
  each-noted (suc point) = record-noted (suc point) (record_of t.thread (suc point)) (follows image t point (noted image t point)) refl
      (noted-follows point (noted image t point) (each-noted point))

  pub known-noted : (point : ℕ) (state : PointState) → noted image t point ≡ Known state → IsNoted Holds state
  known-noted point state known = subst (EachIsNoted Holds) known (each-noted point)
