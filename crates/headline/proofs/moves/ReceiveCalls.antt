-- Recv and NBRecv on what the thread names: the step goes well.
use Rattle.std.proofs.Common.{ℕ, ◌≡◌, ◌∙◌, ◌+◌, ◌<◌, ◌≤◌, ◌++◌, inl, inr, Bool, true, false, if◌then◌else◌, Option, Some, None, Ok, List, [], ◌∷◌, refl, sym}
use Rattle.std.proofs.Common.{ap, subst}
use Rattle.std.specs.Prelude.{Contains}
use Rattle.std.proofs.lemmas.Option.{none-some}
use Rattle.headline.specs.calls.Messages.{ReceivesBy}
use Rattle.headline.specs.facts.Standing.{AllStand}
use Rattle.headline.specs.facts.Waiting.{NamesQueue, NamesThere, behind_receive}
use Rattle.headline.proofs.facts.Laws.{at-place}
use Rattle.model.specs.declared.capabilities.Cap.{Cap}
use Rattle.model.specs.declared.capabilities.Cap.TheVariants.{Endpoint, Notification}
use Rattle.model.specs.declared.labels.Label.{Label}
use Rattle.model.specs.declared.labels.Label.TheVariants.{Ran}
use Rattle.model.specs.declared.labels.Outcome.{Outcome}
use Rattle.model.specs.declared.labels.Outcome.TheVariants.{Waited, Plain}
use Rattle.model.specs.declared.ranges.Range.{Range}
use Rattle.model.specs.declared.lookup_failures.LookupFailure.TheVariants.{MissingCapability}
use Rattle.model.specs.Acceptance.Accepted.{IsAccepted}
use Rattle.headline.specs.moves.Ground.{SameGround}
use Rattle.model.specs.Acceptance.CallRules.{AfterCall, by_capability, known_behind, message_registers, receive_rule, with_received}
use Rattle.model.specs.Acceptance.NotedStates.{PointState}
use Rattle.model.specs.Acceptance.PointStates.{point_of}
use Rattle.model.specs.Acceptance.Promises.{promise_at}
use Rattle.model.specs.Acceptance.ThreadInvariants.{IsCode, tcb_of}
use Rattle.model.specs.Capabilities.Slots.{capability_at}
use Rattle.model.specs.Images.Described.{Numbered, numbered_threads}
use Rattle.model.specs.Images.Image.{Image, ImagePromise}
use Rattle.model.specs.Kernel.AddressSpaces.{page_size}
use Rattle.model.specs.Kernel.Messages.{a0, bytes_sent, deliver_sent, deliver_word, length_between, poll, receive, receive_from, received_waiting, receives}
use Rattle.model.specs.Kernel.Messages.{try_to_receive, wait, waits_to_receive, with_caller}
use Rattle.model.specs.Kernel.Scheduling.{block}
use Rattle.model.specs.Kernel.Soundness.{IsSound}
use Rattle.model.specs.Kernel.State.{State, Inactive, AwaitsReply, Sender, Sent, BySend, ByCall, ByFault, EndpointObject, EndpointState, ThreadObject}
use Rattle.model.specs.Kernel.State.{ThreadState, endpoint_at, thread_at, with_endpoint}
use Rattle.model.specs.Kernel.Steps.{Done, lacks_capability, memory_base, receive_by, receive_call, receive_named}
use Rattle.model.specs.declared.system_calls.ReceiveCall.{ReceiveCall}
use Rattle.model.specs.declared.system_calls.ReceiveCall.TheVariants.{Receiving, Polling}
use Rattle.model.specs.Kernel.Waits.{is_error, is_fault, is_waited}
use Rattle.model.specs.Machine.Effects.{advanced}
use Rattle.model.specs.Machine.ProgramMemory.{write}
use Rattle.headline.specs.moves.Laws.{Laws}
use Rattle.headline.specs.moves.Moving.{CallsAt, PassesWith}
use Rattle.headline.proofs.kept.Laws.{code-stays, length-few}
use Rattle.headline.proofs.moves.Calling.{IsCounted, counted, own-registers}
use Rattle.headline.proofs.moves.NamedSlots.{endpoint-named, named-here, notification-named}
use Rattle.headline.proofs.moves.NotificationCalls.{poll-stands, wait-stands}
use Rattle.headline.proofs.moves.Places.{caller-here, caller-there, passed, passed-there}
use Rattle.headline.proofs.moves.Receives.{blocks-stand, receives-stand}
use Rattle.headline.proofs.moves.SimpleCalls.{it-passes}

-- ---- what a step leaves that goes well

pub record IsFine (image : Image) (t : Numbered) (labels : List Label) (pc : ℕ) (done : Done) : Type 0 where
  pub faults : is_fault (Ran (memory_base + tcb_of image t) pc done.1) ≡ false
  pub errors : is_error (Ran (memory_base + tcb_of image t) pc done.1) ≡ false
  pub stands : AllStand image done.0 (labels ++ Ran (memory_base + tcb_of image t) pc done.1 ∷ [])

module _ (laws : Laws) (bytes : List ℕ) (image : Image) (s : State) (labels : List Label) (accepted : IsAccepted bytes image) (all : AllStand image s labels)
    (t : Numbered) (listed : Contains (numbered_threads image) t) (own : ThreadState) (point : ℕ) (state : PointState) (left : AfterCall)
    (at : CallsAt image t s labels own point state left) (pc : ℕ) where
  abbrev tcb : ℕ
  tcb = tcb_of image t

  abbrev behind : Outcome → List Label
  behind outcome = labels ++ Ran (memory_base + tcb) pc outcome ∷ []

  counts : (outcome : Outcome) → is_waited outcome ≡ left.is_wait → IsCounted image t labels (behind outcome) left.is_wait
  counts outcome same = subst (IsCounted image t labels (behind outcome)) same (counted image t labels pc outcome)

  -- ---- endpoints

  module _ (e : ℕ) (old : EndpointState) (was : s.objects e ≡ Some (EndpointObject old)) where
    abbrev ready : State
    ready = with_caller s tcb None

    -- what becomes of the sender changes neither slots nor bytes
    store-received : (x : Sender) (got : State) → SameGround image s got → (kind : Sent) → SameGround image s (received_waiting got x kind tcb)
    store-received x got same BySend = record {
      memory_bits = same.memory_bits;
      boot_radix = same.boot_radix;
      slots = same.slots;
      bytes = same.bytes;
    }
    store-received x got same ByCall =
        elim x.grant_reply as (λ g. SameGround image s (if g then with_caller (block got x.thread AwaitsReply) tcb (Some x.thread) else
        block got x.thread Inactive)) [
          | true ↦ record { memory_bits = same.memory_bits; boot_radix = same.boot_radix; slots = same.slots; bytes = same.bytes }
          | false ↦ record { memory_bits = same.memory_bits; boot_radix = same.boot_radix; slots = same.slots; bytes = same.bytes }
        ]
    store-received x got same (ByFault fault) = record {
      memory_bits = same.memory_bits;
      boot_radix = same.boot_radix;
      slots = same.slots;
      bytes = same.bytes;
    }

    -- the thread's buffer is no code
    code-received : (f : EndpointState) (x : Sender) (kind : Sent) (frame place : ℕ) → IsCode image frame → frame ≤ place → place < frame + page_size
        → bytes_sent (with_endpoint ready e f) x kind tcb place ≡ s.bytes place
    code-received f x BySend =
        let taken = with_endpoint ready e f in
        code-stays bytes image s labels accepted all t listed x.thread (length_between taken x.thread tcb) (length-few taken x.thread tcb)
    code-received f x ByCall =
        let taken = with_endpoint ready e f in
        code-stays bytes image s labels accepted all t listed x.thread (length_between taken x.thread tcb) (length-few taken x.thread tcb)
    code-received f x (ByFault fault) = λ frame place code low high. refl

    store-delivered : (f : EndpointState) (x : Sender) → SameGround image s (deliver_sent (with_endpoint ready e f) x tcb)
    store-delivered f x = record { memory_bits = refl; boot_radix = refl; slots = λ slot. refl; bytes = code-received f x x.sent }

    some-sends : (outcome : Outcome) → is_waited outcome ≡ left.is_wait →
        (promise : Option ImagePromise) → ((p : ImagePromise) → promise ≡ Some p → promise_at image e ≡ Some p)
        → left ≡ known_behind state (with_received state.ranges promise) left.is_wait message_registers
        → (otherwise : State) (x : Sender) (others : List Sender) → (endpoint_at ready e).senders ≡ x ∷ others
        → IsSound (receives ready e tcb otherwise (x ∷ others)) → AllStand image (receives ready e tcb otherwise (x ∷ others)) (behind outcome)
    some-sends outcome waited promise of_image asks otherwise x others first sound =
        let f = record (endpoint_at ready e) { senders = others } in
        let after = receive_from (with_endpoint ready e f) x tcb in
        receives-stand laws bytes image s labels (behind outcome) accepted all t listed own point state left at (counts outcome waited) e old was after
        sound (store-received x (deliver_sent (with_endpoint ready e f) x tcb) (store-delivered f x) x.sent) x others first (λ y. refl) promise of_image asks

    receive-waits : left ≡ behind_receive image e state → (capability : Cap) → NamesThere image t state capability → NamesQueue e capability
        → IsSound (receive s e tcb) → AllStand image (receive s e tcb) (behind Waited)
    receive-waits asks capability named leads =
        let wait : true ≡ left.is_wait = sym (ap (λ (l : AfterCall). l.is_wait) asks) in
        let known : List Range = with_received state.ranges (promise_at image e) in
        let asks_so : left ≡ known_behind state known left.is_wait message_registers = asks ∙ ap (λ b. known_behind state known b message_registers) wait in
        elim (endpoint_at ready e).senders as (λ xs. (endpoint_at ready e).senders ≡ xs → IsSound (receives ready e tcb (waits_to_receive ready e tcb) xs) →
        AllStand image (receives ready e tcb (waits_to_receive ready e tcb) xs) (behind Waited)) [
          | [] ↦ λ none sound.
              blocks-stand laws bytes image s labels (behind Waited) accepted all t listed own point state left at (counts Waited wait) e old was
              (waits_to_receive ready e tcb) sound
              (record { memory_bits = refl; boot_radix = refl; slots = λ slot. refl; bytes = λ frame place code low high. refl }) none (λ y. refl) asks
              capability named leads
          | x ∷ others ↦ λ first sound. some-sends Waited wait (promise_at image e) (λ p is. is) asks_so (waits_to_receive ready e tcb) x others first sound
        ] refl

    -- nothing is there: a0 becomes 0
    finds-nothing : left ≡ known_behind state (with_received state.ranges None) false message_registers → IsSound (deliver_word ready tcb 0) →
        AllStand image (deliver_word ready tcb 0) (behind Plain)
    finds-nothing asks sound =
        let fit = laws.nothing own.registers state.ranges
        (own-registers laws bytes image s labels (behind Plain) accepted all t listed own point state left at) in
        let free : ThreadState = record own { caller = None } in
        let next : ThreadState = record free { registers = advanced (write own.registers a0 0) } in
        let passes : PassesWith (deliver_word ready tcb 0) tcb own state left =
        subst (λ (l : AfterCall). PassesWith (deliver_word ready tcb 0) tcb own state l) (sym asks) (record {
          next = next;
          is = passed ready tcb (write (thread_at ready tcb).registers a0 0)
              ∙ ap (λ (u : ThreadState). Some (ThreadObject (record u { registers = advanced (write u.registers a0 0) })))
              (at-place ready tcb free (caller-here s tcb None own at.there));
          runs = at.status;
          written = write own.registers a0 0;
          registers = refl;
          pc = refl;
          only = fit.1;
          within = fit.0;
        }) in
        it-passes laws bytes image s labels (behind Plain) accepted all t listed own point state left at
        (counts Plain (sym (ap (λ (l : AfterCall). l.is_wait) asks))) (deliver_word ready tcb 0) sound
        (record { memory_bits = refl; boot_radix = refl; slots = λ slot. refl; bytes = λ frame place code low high. refl })
        (ap (λ (l : AfterCall). l.slots) asks) passes
        (λ y other. passed-there ready tcb (write (thread_at ready tcb).registers a0 0) y other ∙ caller-there s tcb None y other)

    receive-polls : left ≡ known_behind state (with_received state.ranges None) false message_registers →
        IsSound (try_to_receive s e tcb) → AllStand image (try_to_receive s e tcb) (behind Plain)
    receive-polls asks =
        let wait : false ≡ left.is_wait = sym (ap (λ (l : AfterCall). l.is_wait) asks) in
        let known : List Range = with_received state.ranges None in
        let asks_so : left ≡ known_behind state known left.is_wait message_registers = asks ∙ ap (λ b. known_behind state known b message_registers) wait in
        elim (endpoint_at ready e).senders as (λ xs. (endpoint_at ready e).senders ≡ xs → IsSound (receives ready e tcb (deliver_word ready tcb 0) xs) →
        AllStand image (receives ready e tcb (deliver_word ready tcb 0) xs) (behind Plain)) [
          | [] ↦ λ none sound. finds-nothing asks sound
          | x ∷ others ↦ λ first sound. some-sends Plain wait None (λ p is. absurd (none-some p is)) asks_so (deliver_word ready tcb 0) x others first sound
        ] refl

  -- ---- whatever the thread names

  abbrev is_wait_of : ReceiveCall → Bool
  is_wait_of Receiving = true
  is_wait_of Polling = false

  fine : (outcome : Outcome) (after : State) → is_fault (Ran (memory_base + tcb) pc outcome) ≡ false → is_error (Ran (memory_base + tcb) pc outcome) ≡ false →
      AllStand image after (behind outcome) → IsFine image t labels pc (after, outcome)
  fine outcome after runs allowed stands = record { faults = runs; errors = allowed; stands = stands }

  by-object : (kind : ReceiveCall) (slot : ℕ) → NamesThere image t state (capability_at s.slots slot) →
      ReceivesBy image state (is_wait_of kind) (capability_at s.slots slot) left
      → IsSound (receive_by s tcb kind (capability_at s.slots slot)).0 → IsFine image t labels pc (receive_by s tcb kind (capability_at s.slots slot))
  by-object Receiving slot names (ReceivesBy.on_endpoint offset r badge is reads asks) =
      let there = endpoint-named image t s labels all state slot names offset r badge is in
      let same : receive_by s tcb Receiving (capability_at s.slots slot) ≡ (receive s offset tcb, Waited) =
      ap (receive_by s tcb Receiving) is ∙ ap (λ b. if b then (receive s offset tcb, Waited) else lacks_capability s tcb 1 MissingCapability) reads in
      subst (λ (done : Done). IsSound done.0 → IsFine image t labels pc done) (sym same)
      (λ sound. fine Waited (receive s offset tcb) refl refl (receive-waits offset there.old there.was asks (Endpoint offset r badge)
      there.named (inl refl) sound))
  by-object Polling slot names (ReceivesBy.on_endpoint offset r badge is reads asks) =
      let there = endpoint-named image t s labels all state slot names offset r badge is in
      let same : receive_by s tcb Polling (capability_at s.slots slot) ≡ (try_to_receive s offset tcb, Plain) =
      ap (receive_by s tcb Polling) is ∙ ap (λ b. if b then (try_to_receive s offset tcb, Plain) else lacks_capability s tcb 1 MissingCapability) reads in
      subst (λ (done : Done). IsSound done.0 → IsFine image t labels pc done) (sym same)
      (λ sound. fine Plain (try_to_receive s offset tcb) refl refl (receive-polls offset there.old there.was asks sound))
  by-object Receiving slot names (ReceivesBy.on_notification offset r badge is reads asks) =
      let there = notification-named image t s labels all state slot names offset r badge is in
      let same : receive_by s tcb Receiving (capability_at s.slots slot) ≡ (wait s offset tcb, Waited) =
      ap (receive_by s tcb Receiving) is ∙ ap (λ b. if b then (wait s offset tcb, Waited) else lacks_capability s tcb 1 MissingCapability) reads in
      subst (λ (done : Done). IsSound done.0 → IsFine image t labels pc done) (sym same)
      (λ sound. fine Waited (wait s offset tcb) refl refl
      (wait-stands laws bytes image s labels (behind Waited) accepted all t listed own point state left at
      (counts Waited (sym (ap (λ (l : AfterCall). l.is_wait) asks))) offset there.old there.was asks
      (Notification offset r badge) there.named (inr refl) sound))
  by-object Polling slot names (ReceivesBy.on_notification offset r badge is reads asks) =
      let there = notification-named image t s labels all state slot names offset r badge is in
      let same : receive_by s tcb Polling (capability_at s.slots slot) ≡ (poll s offset tcb, Plain) =
      ap (receive_by s tcb Polling) is ∙ ap (λ b. if b then (poll s offset tcb, Plain) else lacks_capability s tcb 1 MissingCapability) reads in
      subst (λ (done : Done). IsSound done.0 → IsFine image t labels pc done) (sym same)
      (λ sound. fine Plain (poll s offset tcb) refl refl
      (poll-stands laws bytes image s labels (behind Plain) accepted all t listed own point state left at
      (counts Plain (sym (ap (λ (l : AfterCall). l.is_wait) asks))) offset there.old there.was asks sound))

  pub receive-fine : (kind : ReceiveCall) → by_capability image t.thread (point_of t point) state
      (λ slot. receive_rule image (point_of t point) state (is_wait_of kind)) ≡ Ok left
      → IsSound (receive_call s tcb kind).0 → IsFine image t labels pc (receive_call s tcb kind)
  receive-fine kind rule =
      let names = named-here laws bytes image s labels accepted t listed own point state left at
      (λ slot. receive_rule image (point_of t point) state (is_wait_of kind)) rule in
      let by = laws.receives image (point_of t point) state (is_wait_of kind) (capability_at s.slots names.slot) left names.rule in
      subst (λ (done : Done). IsSound done.0 → IsFine image t labels pc done) (sym (ap (receive_named s tcb kind) names.named))
      (by-object kind names.slot names.there by)
